-- What two calls to the children come to as one map over them, and what the first leaves as it was.
use Rattle.std.proofs.Common.{◌≡◌, ℕ, ◌+◌, ◌<◌, true, false, List, [], ◌∷◌, length, Option, None, refl, ap, ◌∙◌, sym, arith, All}
use Rattle.std.specs.Prelude.{nat_eq, if◌then◌else◌}
use Rattle.std.proofs.lemmas.List.{length-set}
use Rattle.std.proofs.lemmas.Bool.{eqb-true, eqb-false, ne_eqb}
use Rattle.split_bus.specs.DdmTypes.declared.answers.TxKind.TheVariants.{DataTx}
use Rattle.split_bus.specs.TreeModel.State.Lists.{map_from, first_given, first_some}
use Rattle.split_bus.specs.TreeModel.State.Values.{Note, Node, leaf_node, dir_node}
use Rattle.split_bus.specs.TreeModel.State.Directory.{is_reader}
use Rattle.split_bus.specs.TreeModel.State.Child.{child_full_for, child_give_up, child_reply_taken}
use Rattle.split_bus.specs.TreeModel.Turns.Children.{child_at, only, reader_full}
use Rattle.split_bus.proofs.TreeModel.Children.{child_at-map_from, map_from-at, map_from-length}
use Rattle.item_states.specs.Parts.{node_items}

module _ {X : Type 0} where
  pub map_from-both : (g h : ℕ → X → X) (i : ℕ) (xs : List X) → map_from g i (map_from h i xs) ≡ map_from (λ j x. g j (h j x)) i xs
  map_from-both g h i [] = refl
  map_from-both g h i (x ∷ xs) = ap (λ ys. g i (h i x) ∷ ys) (map_from-both g h (i + 1) xs)

  map_from-alike : (g h : ℕ → X → X) → ((j : ℕ) (x : X) → g j x ≡ h j x) → (i : ℕ) (xs : List X) → map_from g i xs ≡ map_from h i xs
  map_from-alike g h alike i [] = refl
  map_from-alike g h alike i (x ∷ xs) = rw (alike i x) (ap (λ ys. h i x ∷ ys) (map_from-alike g h alike (i + 1) xs))

  first_given-kept : {Y : Type 0} (t : ℕ → X → Option Y) (g : ℕ → X → X) → ((j : ℕ) (x : X) → t j (g j x) ≡ t j x) → (i : ℕ) (xs : List X) → first_given t i (map_from g i xs) ≡ first_given t i xs
  first_given-kept t g kept i [] = refl
  first_given-kept t g kept i (x ∷ xs) = rw (kept i x) (ap (λ o. first_some (t i x) o) (first_given-kept t g kept (i + 1) xs))

  -- what each element has, and g keeps, each has afterwards
  All-map_from : (P : X → Type 0) (g : ℕ → X → X) → ((i : ℕ) (x : X) → P x → P (g i x)) → (xs : List X) → All P xs → All P (map_from g 0 xs)
  All-map_from P g keeps xs all = λ k d within.
      let inside : k < length xs = omega (arith, map_from-length g 0 xs) in
      rw (map_from-at g 0 k xs d inside) (keeps (0 + k) _ (all k d inside))

-- ---- two children

module _ (c k : ℕ) (f h : Node → Node) (apart : nat_eq k c ≡ false) where
  -- f for child c, and h for child k
  abbrev each_own : ℕ → Node → Node
  each_own i n = if nat_eq i c then f n else (if nat_eq i k then h n else n)

  -- a child that is c isn't k
  not_other : (i : ℕ) → nat_eq i c ≡ true → nat_eq i k ≡ false
  not_other i same = ne_eqb i k (λ e. eqb-false k c apart (sym e ∙ eqb-true i c same))

  first_then : (i : ℕ) (n : Node) → only c f i (only k h i n) ≡ each_own i n
  first_then i n =
      elim (nat_eq i c) as (λ b. nat_eq i c ≡ b → (if b then f (only k h i n) else only k h i n) ≡ (if b then f n else (if nat_eq i k then h n else n))) [
        | true ↦ λ same. rw (not_other i same) refl
        | false ↦ λ other. refl
      ] refl

  then_first : (i : ℕ) (n : Node) → only k h i (only c f i n) ≡ each_own i n
  then_first i n =
      elim (nat_eq i c) as (λ b. nat_eq i c ≡ b → (if nat_eq i k then h (if b then f n else n) else (if b then f n else n)) ≡ (if b then f n else (if nat_eq i k then h n else n))) [
        | true ↦ λ same. rw (not_other i same) refl
        | false ↦ λ other. refl
      ] refl

  pub both-told : (ns : List Node) → map_from (only c f) 0 (map_from (only k h) 0 ns) ≡ map_from each_own 0 ns
  both-told ns = map_from-both (only c f) (only k h) 0 ns ∙ map_from-alike _ each_own first_then 0 ns

  pub both-told_back : (ns : List Node) → map_from (only k h) 0 (map_from (only c f) 0 ns) ≡ map_from each_own 0 ns
  both-told_back ns = map_from-both (only k h) (only c f) 0 ns ∙ map_from-alike _ each_own then_first 0 ns

-- another child is as it was
pub only-other : (c k : ℕ) (f : Node → Node) → nat_eq k c ≡ false → (ns : List Node) → k < length ns → child_at k (map_from (only c f) 0 ns) ≡ child_at k ns
only-other c k f apart ns within = child_at-map_from (only c f) k ns within ∙ rw apart refl

-- ---- one child before all

-- each child still keeps something of the item
pub have-kept : (x c : ℕ) (f : Node → Node) → ((n : Node) → node_items (f n) ≡ node_items n) → (ns : List Node) → All (λ n. x < node_items n) ns → All (λ n. x < node_items n) (map_from (only c f) 0 ns)
have-kept x c f kept ns have =
    All-map_from (λ n. x < node_items n) (only c f) (λ i n has.
    elim (nat_eq i c) as (λ b. x < node_items (if b then f n else n)) [
      | true ↦ rw (kept n) has
      | false ↦ has
    ]) ns have

pub node_items-reply_taken : (n : Node) → node_items (child_reply_taken n) ≡ node_items n
node_items-reply_taken (leaf_node v) = refl
node_items-reply_taken (dir_node d ns) = refl

pub node_items-given_up : (x : ℕ) (n : Node) → node_items (child_give_up x n) ≡ node_items n
node_items-given_up x (leaf_node v) = length-set _ _ _
node_items-given_up x (dir_node d ns) = length-set _ _ _

full-reply_taken : (x : ℕ) (n : Node) → child_full_for DataTx x (child_reply_taken n) ≡ child_full_for DataTx x n
full-reply_taken x (leaf_node v) = refl
full-reply_taken x (dir_node d ns) = refl

-- the readers' lists are as full after a child's reply was taken
pub readers-reply_taken : (note : Note) (x c : ℕ) (ns : List Node) → first_given (reader_full note x) 0 (map_from (only c child_reply_taken) 0 ns) ≡ first_given (reader_full note x) 0 ns
readers-reply_taken note x c ns =
    first_given-kept (reader_full note x) (only c child_reply_taken) (λ i n.
    elim (nat_eq i c) as (λ b. reader_full note x i (if b then child_reply_taken n else n) ≡ reader_full note x i n) [
      | true ↦ ap (λ o. if is_reader note i then o else None) (full-reply_taken x n)
      | false ↦ refl
    ]) 0 ns
