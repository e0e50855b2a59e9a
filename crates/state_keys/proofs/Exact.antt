-- Machines whose words are the same are alike: the words are read into the machine without its time.
-- Letters: m and n are machines, fresh is one before its first turn.
use Rattle.std.specs.Prelude.{◌≡◌, ℕ, suc, ◌+◌, List, [], ◌++◌, length, flat_map, Result, Ok, refl}
use Rattle.std.proofs.Common.{ap, sym, ◌∙◌}
use Rattle.std.proofs.lemmas.List.{length-map}
use Rattle.state_keys.specs.TreeModel.State.Values.{LeafValue, Node, Nodes, leaf_node, dir_node, no_nodes, more_nodes, MachineValue, root_of}
use Rattle.state_keys.specs.TreeModel.State.Shape.{frame_of}
use Rattle.state_keys.specs.TreeModel.Turns.Machine.{leaves_of, leaves_among, machine_leaves}
use Rattle.state_keys.specs.TreeRules.Bus.Rules.{IsMachineOk}
use Rattle.state_keys.specs.StateJudging.Read.{CanRead}
use Rattle.state_keys.specs.StateWords.Machine.{state_words}
use Rattle.spelling_laws.specs.StateReading.Machine.{read_words}
use Rattle.spelling_laws.specs.StateReading.Reading.{Read}
use Rattle.spelling_laws.specs.StateReading.declared.StateRefusal.{StateRefusal}
use Rattle.spelling_laws.proofs.MachineTaken.{spelled-read}
use Rattle.value_laws.specs.Values.{HasForm}
use Rattle.time_laws.specs.Forget.{forget_node, forget_nodes, forget, put_bytes, puts_of, Alike}
use Rattle.state_keys.specs.Key.{put_words, state_key}
use Rattle.state_keys.proofs.Forgotten.{frame-forgotten, forgotten-spelled}
use Rattle.state_keys.proofs.Puts.{puts-told}

-- what is read where there is nothing wrong
ok-same : (p q : Read MachineValue) → ◌≡◌ {A = Result (Read MachineValue) StateRefusal} (Ok p) (Ok q) → p ≡ q
ok-same p q same = cc

-- ---- as many harts

mutual
  leaves-counted : (n : Node) (rest more : List LeafValue) → length rest ≡ length more → length (leaves_of (forget_node n) rest) ≡ length (leaves_of n more)
  leaves-counted (leaf_node v) rest more count = ap suc count
  leaves-counted (dir_node d ns) rest more count = leaves-counted_among ns rest more count

  leaves-counted_among : (ns : Nodes) (rest more : List LeafValue) → length rest ≡ length more → length (leaves_among (forget_nodes ns) rest) ≡ length (leaves_among ns more)
  leaves-counted_among no_nodes rest more count = count
  leaves-counted_among (more_nodes n ns) rest more count = leaves-counted n (leaves_among (forget_nodes ns) rest) (leaves_among ns more) (leaves-counted_among ns rest more count)

puts-counted : (m : MachineValue) → length (puts_of m) ≡ length (machine_leaves (forget m))
puts-counted m = length-map (machine_leaves m) (λ v. put_bytes v.number m) ∙ sym (leaves-counted (root_of m) [] [] refl)

-- ---- the words

module _ (fresh m n : MachineValue) (most : ℕ) (can : CanRead fresh) where
  key-read : (k : MachineValue) → frame_of k ≡ frame_of fresh → IsMachineOk k → HasForm most k
      → read_words fresh 0 0 (state_key k) ≡ Ok (record { value = forget k; at = 0 + length (state_words (forget k)); rest = flat_map put_words (puts_of k) })
  unfolding state_key
  key-read k framed ok form = spelled-read fresh (forget k) 0 (flat_map put_words (puts_of k)) can (frame-forgotten k ∙ framed) (forgotten-spelled most k ok form)

  pub key-alike : frame_of m ≡ frame_of fresh → frame_of n ≡ frame_of fresh → IsMachineOk m → IsMachineOk n → HasForm most m → HasForm most n → state_key m ≡ state_key n → Alike m n
  key-alike framed other ok fine form has same =
      let read = ok-same _ _ (sym (key-read m framed ok form) ∙ ap (read_words fresh 0 0) same ∙ key-read n other fine has) in
      let state : forget m ≡ forget n = ap (λ (r : Read MachineValue). r.value) read in
      let rest : flat_map put_words (puts_of m) ≡ flat_map put_words (puts_of n) = ap (λ (r : Read MachineValue). r.rest) read in
      record { state = state; puts = puts-told (puts_of m) (puts_of n) (puts-counted m ∙ ap (λ k. length (machine_leaves k)) state ∙ sym (puts-counted n)) rest }

pub alike-key : (m n : MachineValue) → Alike m n → state_key m ≡ state_key n
unfolding state_key
alike-key m n alike = ap (λ k. state_words k ++ flat_map put_words (puts_of m)) alike.state ∙ ap (λ puts. state_words (forget n) ++ flat_map put_words puts) alike.puts
