-- The bytes of a checkpoint, one part behind the other.
use Rattle.std.proofs.Common.{◌≡◌, ℕ, ◌+◌, ◌≤◌, List, [], ◌∷◌, ◌++◌, length, take, drop, Bool, true, false, if◌then◌else◌, refl, sym, ap, ◌∙◌, append_assoc}
use Rattle.std.specs.List.{flat_map}
use Rattle.std.proofs.lemmas.List.{drop_all, drop-drop, take-append-drop}
use Rattle.std.proofs.lemmas.Grind.{flat_map-append}
use Rattle.checkpoint.specs.DdmTypes.declared.operations.Op.{Op}
use Rattle.checkpoint.specs.TreeModel.State.Values.{MachineValue}
use Rattle.checkpoint.specs.TextModel.declared.RunCounts.{RunCounts}
use Rattle.checkpoint.specs.StateWords.Parts.{op_words}
use Rattle.checkpoint.specs.StateWords.Machine.{checkpoint_bytes, checkpoint_words, head_words, sizes_of, state_words}
use Rattle.checkpoint.specs.DdmTree.Written.{tree_words}
use Rattle.checkpoint.specs.Saved.{saved}
use Rattle.checkpoint.specs.PiecesLeft.{bytes_left, front_words}
use Rattle.checkpoint.proofs.WordBytes.{bytes_of, bytes-append}

module _ (given : ℕ) (front : List ℕ) (done : ℕ) (ops : List Op) (ended : Bool) where
  -- the next words
  pub words-more : (n : ℕ) → bytes_left given front done ops ended ≡ bytes_of (take n (drop given front)) ++ bytes_left (given + n) front done ops ended
  words-more n =
      let operations = flat_map op_words (drop done ops) in
      let end = if ended then [] else 0x454d4444 ∷ [] in
      let some = take n (drop given front) in
      let rest = drop (given + n) front in
      let cut : drop given front ≡ some ++ rest = sym (take-append-drop n (drop given front)) ∙ ap (λ l. some ++ l) (drop-drop n given front) in
      let parts : drop given front ++ operations ++ end ≡ some ++ (rest ++ operations ++ end) =
      ap (λ l. l ++ operations ++ end) cut ∙ ap (λ l. l ++ end) (append_assoc some rest operations) ∙ append_assoc some (rest ++ operations) end in
      ap bytes_of parts ∙ bytes-append some (rest ++ operations ++ end)

  -- the next operations
  pub operations-more : (n : ℕ) → length front ≤ given → bytes_left given front done ops ended ≡ bytes_of (flat_map op_words (take n (drop done ops))) ++ bytes_left given front (done + n) ops ended
  operations-more n past =
      let end = if ended then [] else 0x454d4444 ∷ [] in
      let some = take n (drop done ops) in
      let rest = drop (done + n) ops in
      let cut : drop done ops ≡ some ++ rest = sym (take-append-drop n (drop done ops)) ∙ ap (λ l. some ++ l) (drop-drop n done ops) in
      let words : flat_map op_words (drop done ops) ≡ flat_map op_words some ++ flat_map op_words rest = ap (flat_map op_words) cut ∙ flat_map-append op_words some rest in
      let parts : drop given front ++ flat_map op_words (drop done ops) ++ end ≡ flat_map op_words some ++ (drop given front ++ flat_map op_words rest ++ end) =
      rw (drop_all given front past) (ap (λ l. l ++ end) words ∙ append_assoc (flat_map op_words some) (flat_map op_words rest) end) in
      ap bytes_of parts ∙ bytes-append (flat_map op_words some) (drop given front ++ flat_map op_words rest ++ end)

-- the end word
pub end-more : (given : ℕ) (front : List ℕ) (done : ℕ) (ops : List Op) → length front ≤ given → length ops ≤ done → bytes_left given front done ops false ≡ bytes_of (0x454d4444 ∷ []) ++ bytes_left given front done ops true
end-more given front done ops past all = rw (drop_all given front past, drop_all done ops all) refl

pub none-left : (given : ℕ) (front : List ℕ) (done : ℕ) (ops : List Op) → length front ≤ given → length ops ≤ done → bytes_left given front done ops true ≡ []
none-left given front done ops past all = rw (drop_all given front past, drop_all done ops all) refl

-- before anything is given
pub nothing-given : (m : MachineValue) (c : RunCounts) → bytes_left 0 (front_words m c) 0 m.ops false ≡ saved m c
unfolding checkpoint_bytes checkpoint_words state_words
nothing-given m c =
    let head = head_words (sizes_of m) c.turns c.retired c.granted c.busy in
    let tree = tree_words m in
    let count = length m.ops ∷ [] in
    let ops = flat_map op_words m.ops in
    let end = 0x454d4444 ∷ [] in
    let front : head ++ tree ++ count ++ ops ≡ head ++ (tree ++ (count ++ ops)) = append_assoc (head ++ tree) count ops ∙ append_assoc head tree (count ++ ops) in
    ap bytes_of (ap (λ l. l ++ end) front ∙ append_assoc head (tree ++ (count ++ ops)) end)
