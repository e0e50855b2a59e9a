-- Where the rules of a bus hold at every bus, every item has a found copy.
use Rattle.std.proofs.Common.{◌≡◌, ℕ, ◌+◌, ◌<◌, ◌≤◌, Bool, true, false, List, [], ◌∷◌, map, length, Option, Some, None, refl, sym, ◌∙◌, arith, ◌⊎◌, inl, inr}
use Rattle.std.specs.Prelude.{not, ◌||◌, nat_eq, nat_lt, is_some, filter, find, position, option_map}
use Rattle.std.specs.List.{list_any, position_or_len}
use Rattle.std.specs.Bool.{beq}
use Rattle.std.proofs.lemmas.Bool.{and_parts, or_parts, not-true, ltb-true, lt-ltb, false_from_ne_true}
use Rattle.bus_laws.specs.DdmTypes.declared.answers.TxKind.{TxKind}
use Rattle.bus_laws.specs.DdmTypes.declared.answers.TxKind.TheVariants.{ReadTx, DataTx, EraseTx, ExclusiveTx, InjectTx, OutTx}
use Rattle.bus_laws.specs.TreeModel.declared.CopyPlace.{CopyPlace}
use Rattle.bus_laws.specs.TreeModel.State.Lists.{first_of, has_some, first_some}
use Rattle.bus_laws.specs.TreeModel.State.Kinds.{brings_copy}
use Rattle.bus_laws.specs.TreeModel.State.States.{is_held}
use Rattle.bus_laws.specs.TreeModel.State.Values.{CopyValue, DownValue, LeafValue, DirValue, Node, Nodes, leaf_node, dir_node, no_nodes, more_nodes, children, MachineValue}
use Rattle.bus_laws.specs.TreeModel.State.Leaf.{is_copy, copy_words, words_of_item, way_at, is_buffered, buffered, entry_at, leaf_entry, spot_at, leaf_hold}
use Rattle.bus_laws.specs.TreeModel.State.Directory.{entry_kind, queue_of, queue_kinds, parked_words, parked_place, is_parked}
use Rattle.bus_laws.specs.TreeModel.State.Child.{child_holds}
use Rattle.bus_laws.specs.TreeModel.Turns.Found.{words_of_entry, last_words, queue_words, words_found, words_among, found_words, leaf_place, last_place, down_place, place_found, place_among, found_place, found_of, found_copy}
use Rattle.tree_rules.specs.Bus.Faces.{child_face, parent_face, faces_of}
use Rattle.tree_rules.specs.Bus.Item.{holds_it, hold_follows, copies_in, held_after, bits_of}
use Rattle.tree_rules.specs.Bus.Rules.{IsTreeOk, AreTreesOk, IsMachineOk, items_of_machine}

-- ---- its words

first-is_some : {X : Type 0} (a b : Option X) → is_some a ≡ true → is_some (first_some a b) ≡ true
first-is_some None b h = cc
first-is_some (Some x) b h = refl

second-is_some : {X : Type 0} (a b : Option X) → is_some b ≡ true → is_some (first_some a b) ≡ true
second-is_some None b h = h
second-is_some (Some x) b h = refl

leaf-has_words : (x : ℕ) (v : LeafValue) → is_held (leaf_hold x v) ≡ true → is_some (option_map words_of_entry (leaf_entry x v)) ≡ true
unfolding leaf_hold
leaf-has_words x v h =
    elim (leaf_entry x v) as (λ o. leaf_entry x v ≡ o → is_some (option_map words_of_entry (leaf_entry x v)) ≡ true) [
      | Some e ↦ λ is. rw is refl
      | None ↦ λ none.
          let wrong : false ≡ true = rw none at h in
          cc
    ] refl

last-has_words : (words : List ℕ) (later : Option (List ℕ)) → is_some (last_words true words later) ≡ true
last-has_words words None = refl
last-has_words words (Some w) = refl

-- a queue that ends with a copy has its words; else what is held is held below
queue-brings : (held : Bool) (q : List DownValue) → held_after held (copies_in (map entry_kind q)) ≡ true → (is_some (queue_words q) ≡ true) ⊎ (held ≡ true)
queue-brings held [] h = inr h
queue-brings held (e ∷ q) h = by_kind (λ b. queue-brings b q) e.kind refl
  where
    by_kind : ((b : Bool) → held_after b (copies_in (map entry_kind q)) ≡ true → (is_some (queue_words q) ≡ true) ⊎ (b ≡ true)) → (k : TxKind) → e.kind ≡ k → (is_some (queue_words (e ∷ q)) ≡ true) ⊎ (held ≡ true)
    by_kind later DataTx is = inl (rw is (last-has_words e.words (queue_words q)))
    by_kind later InjectTx is = inl (rw is (last-has_words e.words (queue_words q)))
    by_kind later ReadTx is = rw is (later held (rw is at h))
    by_kind later ExclusiveTx is = rw is (later held (rw is at h))
    by_kind later OutTx is = rw is (later held (rw is at h))
    by_kind later EraseTx is =
        elim (later false (rw is at h)) as (λ _. (is_some (queue_words (e ∷ q)) ≡ true) ⊎ (held ≡ true)) [
          | inl comes ↦ inl (rw is comes)
          | inr wrong ↦ absurd (let no : ⊥ = cc in no)
        ]

equal-true : (b c : Bool) → b ≡ true → beq b c ≡ true → c ≡ true
equal-true true true e h = refl
equal-true true false e h = cc
equal-true false c e h = cc

either : (a b : Bool) → (a || b) ≡ true → (a ≡ true) ⊎ (b ≡ true)
either true b h = inl refl
either false b h = inr h

parked-has_words : {X : Type 0} (ws : List X) → has_some ws ≡ true → is_some (first_of ws) ≡ true
parked-has_words [] h = cc
parked-has_words (w ∷ ws) h = refl

holds_it-face : (x : ℕ) (m : Node) → holds_it (child_face x m) ≡ child_holds x m
holds_it-face x (leaf_node v) = refl
holds_it-face x (dir_node d ns) = refl

mutual
  -- a node that holds the item has it
  words_found-exist : (n x : ℕ) (m : Node) → x < n → IsTreeOk n m → child_holds x m ≡ true → is_some (words_found x m) ≡ true
  words_found-exist n x (leaf_node v) low ok held = leaf-has_words x v held
  words_found-exist n x (dir_node d ns) low ok held =
      let p = parent_face x d in
      let k = bits_of (parent_face x d) (faces_of x (children ns)) in
      let follows : held_after k.held (copies_in (queue_kinds x d.down)) ≡ true = equal-true _ _ held ((ok.0.rules x low).each hold_follows) in
      elim (queue-brings k.held (queue_of x d.down) follows) as (λ _. is_some (words_found x (dir_node d ns)) ≡ true) [
        | inl comes ↦ first-is_some _ _ comes
        | inr below ↦ second-is_some (queue_words (queue_of x d.down)) _ (
            elim (either (is_parked x d) (list_any holds_it (faces_of x (children ns))) below) as (λ _. is_some (first_some (parked_words x d) (words_among x ns)) ≡ true) [
              | inl parked ↦ first-is_some _ _ (parked-has_words (words_of_item x d.parked) parked)
              | inr child ↦ second-is_some (parked_words x d) _ (words_among-exist n x ns low ok.1 child)
            ])
      ]

  words_among-exist : (n x : ℕ) (ns : Nodes) → x < n → AreTreesOk n ns → list_any holds_it (faces_of x (children ns)) ≡ true → is_some (words_among x ns) ≡ true
  words_among-exist n x no_nodes low ok some = cc
  words_among-exist n x (more_nodes m ns) low ok some =
      elim (child_holds x m) as (λ b. child_holds x m ≡ b → is_some (words_among x (more_nodes m ns)) ≡ true) [
        | true ↦ λ is. rw is (words_found-exist n x m low ok.0 is)
        | false ↦ λ other.
            let free : holds_it (child_face x m) ≡ false = holds_it-face x m ∙ other in
            let rest : list_any holds_it (faces_of x (children ns)) ≡ true = rw free at some in
            rw other (words_among-exist n x ns low ok.1 rest)
      ] refl

-- ---- its place

last-place_as_words : (b : Bool) (k : ℕ) (words : List ℕ) (p : Option ℕ) (o : Option (List ℕ)) → is_some p ≡ is_some o → is_some (last_place b k p) ≡ is_some (last_words b words o)
last-place_as_words true k words None None h = refl
last-place_as_words true k words None (Some w) h = refl
last-place_as_words true k words (Some j) None h = refl
last-place_as_words true k words (Some j) (Some w) h = refl
last-place_as_words false k words p o h = h

down-place_as_words : (x k : ℕ) (down : List DownValue) → is_some (down_place x k down) ≡ is_some (queue_words (queue_of x down))
unfolding queue_of
down-place_as_words x k [] = refl
down-place_as_words x k (e ∷ down) =
    elim (nat_eq x e.item) as (λ b. nat_eq x e.item ≡ b → is_some (down_place x k (e ∷ down)) ≡ is_some (queue_words (queue_of x (e ∷ down)))) [
      | true ↦ λ is. rw is (last-place_as_words (brings_copy e.kind) k e.words _ _ (down-place_as_words x (k + 1) down))
      | false ↦ λ is. rw is (down-place_as_words x (k + 1) down)
    ] refl

module _ {X : Type 0} (p : X → Bool) where
  place-below : (xs : List X) → list_any p xs ≡ true → position_or_len p xs < length xs
  place-below [] h = cc
  place-below (x ∷ xs) h =
      elim (p x) as (λ b. p x ≡ b → position_or_len p (x ∷ xs) < length (x ∷ xs)) [
        | true ↦ λ is. rw is (omega arith)
        | false ↦ λ other.
            let rest : list_any p xs ≡ true = rw other at h in
            let later = place-below xs rest in
            rw other (omega arith)
      ] refl

  place-past : (xs : List X) → list_any p xs ≡ false → length xs ≤ position_or_len p xs
  place-past [] h = omega arith
  place-past (x ∷ xs) h =
      let parts = or_parts (p x) (list_any p xs) h in
      let later = place-past xs parts.1 in
      rw parts.0 (omega arith)

  position-is_some : (xs : List X) → is_some (position p xs) ≡ list_any p xs
  position-is_some xs =
      elim (list_any p xs) as (λ b. list_any p xs ≡ b → is_some (position p xs) ≡ b) [
        | true ↦ λ is. rw (lt-ltb (position_or_len p xs) (length xs) (place-below xs is)) refl
        | false ↦ λ none. rw (not-below (position_or_len p xs) (length xs) (place-past xs none)) refl
      ] refl where
        not-below : (a b : ℕ) → b ≤ a → nat_lt a b ≡ false
        not-below a b h = false_from_ne_true (nat_lt a b) (λ e. let less : a < b = ltb-true a b e in omega arith)

  find-is_some : (xs : List X) → is_some (find p xs) ≡ list_any p xs
  find-is_some [] = refl
  find-is_some (x ∷ xs) = elim (p x) as (λ b. p x ≡ b → is_some (find p (x ∷ xs)) ≡ list_any p (x ∷ xs)) [ true ↦ λ is. rw is refl | false ↦ λ other. rw other (find-is_some xs) ] refl

parked-place_as_words : (x : ℕ) (d : DirValue) → is_some (parked_place x d) ≡ is_some (parked_words x d)
unfolding words_of_item
parked-place_as_words x d = position-is_some (is_copy x) d.parked ∙ go d.parked
  where
    go : (cs : List CopyValue) → list_any (is_copy x) cs ≡ is_some (first_of (map copy_words (filter (is_copy x) cs)))
    go [] = refl
    go (c ∷ cs) = elim (is_copy x c) as (λ b. is_copy x c ≡ b → list_any (is_copy x) (c ∷ cs) ≡ is_some (first_of (map copy_words (filter (is_copy x) (c ∷ cs))))) [ true ↦ λ is. rw is refl | false ↦ λ other. rw other (go cs) ] refl

map-is_some : {X Y : Type 0} (f : X → Y) (o : Option X) → is_some (option_map f o) ≡ is_some o
map-is_some f None = refl
map-is_some f (Some x) = refl

first-both : {X Y : Type 0} (a b : Option X) (c d : Option Y) → is_some a ≡ is_some c → is_some b ≡ is_some d → is_some (first_some a b) ≡ is_some (first_some c d)
first-both None b None d first second = second
first-both None b (Some y) d first second = cc
first-both (Some x) b None d first second = cc
first-both (Some x) b (Some y) d first second = refl

leaf-place_as_words : (x : ℕ) (v : LeafValue) → is_some (leaf_place x v) ≡ is_some (option_map words_of_entry (leaf_entry x v))
unfolding entry_at
leaf-place_as_words x v =
    map-is_some _ (spot_at x v.ways v.buffer)
    ∙ first-both _ _ _ _ (map-is_some _ (way_at x v.ways) ∙ sym (map-is_some _ (way_at x v.ways))) (map-is_some _ (position (is_buffered x) v.buffer) ∙ position-is_some (is_buffered x) v.buffer ∙ sym (find-is_some (is_buffered x) v.buffer) ∙ sym (map-is_some _ (buffered x v.buffer)))
    ∙ sym (map-is_some words_of_entry (leaf_entry x v))

mutual
  place-as_words : (x : ℕ) (m : Node) → is_some (place_found x m) ≡ is_some (words_found x m)
  place-as_words x (leaf_node v) = leaf-place_as_words x v
  place-as_words x (dir_node d ns) = first-both _ _ _ _ (map-is_some _ (down_place x 0 d.down) ∙ down-place_as_words x 0 d.down) (first-both _ _ _ _ (map-is_some _ (parked_place x d) ∙ parked-place_as_words x d) (place-among_as_words x ns))

  place-among_as_words : (x : ℕ) (ns : Nodes) → is_some (place_among x ns) ≡ is_some (words_among x ns)
  place-among_as_words x no_nodes = refl
  place-among_as_words x (more_nodes m ns) = elim (child_holds x m) as (λ b. child_holds x m ≡ b → is_some (place_among x (more_nodes m ns)) ≡ is_some (words_among x (more_nodes m ns))) [ true ↦ λ is. rw is (place-as_words x m) | false ↦ λ other. rw other (place-among_as_words x ns) ] refl

-- ---- both

pub found_copy-exists : (m : MachineValue) → IsMachineOk m → (x : ℕ) → x < items_of_machine m → is_some (found_copy x m) ≡ true
unfolding found_copy found_words found_place
found_copy-exists m ok x low =
    let holder = (and_parts (is_parked x m.top || list_any holds_it (faces_of x (children m.kids))) _ (ok.held x low)) in
    let free = and_parts (not (is_parked x m.top)) _ holder.1 in
    let words : is_some (words_among x m.kids) ≡ true = words_among-exist (items_of_machine m) x m.kids low ok.tree.1 (child-holds _ _ (not-true _ free.0) holder.0) in
    found-both (place_among x m.kids) (words_among x m.kids) (place-among_as_words x m.kids ∙ words) words
  where
    child-holds : (a b : Bool) → a ≡ false → (a || b) ≡ true → b ≡ true
    child-holds a b none h = rw none at h

    found-both : (p : Option CopyPlace) (o : Option (List ℕ)) → is_some p ≡ true → is_some o ≡ true → is_some (found_of p o) ≡ true
    found-both None o first second = cc
    found-both (Some p) None first second = cc
    found-both (Some p) (Some w) first second = refl
