-- Leaves are numbered from left to right: what is read of the leaf of a number is that of the one at this place in the list of
-- all leaves.
use Rattle.std.proofs.Common.{◌≡◌, ◌<◌, ℕ, zero, suc, ◌+◌, Bool, true, false, cond, nat_eq, List, [], ◌∷◌, length, map, Option, Some, None, option_map, refl, sym, ap, ◌∙◌, arith, zero-add}
use Rattle.std.specs.Prelude.{is_some, slice_get, if◌then◌else◌}
use Rattle.std.specs.List.{find}
use Rattle.std.proofs.lemmas.Bool.{eqb-true, eq-eqb, ne_eqb}
use Rattle.std.proofs.lemmas.List.{length-map}
use Rattle.ddm_tree.specs.TreeModel.State.Lists.{first_some}
use Rattle.ddm_tree.specs.TreeModel.State.Values.{LeafValue, DirValue, Node, Nodes, leaf_node, dir_node, no_nodes, more_nodes, MachineValue, root_of}
use Rattle.ddm_tree.specs.TreeModel.State.Place.{Where, at_top, at_child, where_path, spot_in}
use Rattle.ddm_tree.specs.TreeModel.State.Shape.{IsShaped, skeleton, skeletons, leaf_numbers_of, leaf_numbers_among, count_from, tree_counts, leaves_numbered}
use Rattle.ddm_tree.specs.TreeModel.Turns.Machine.{ask_leaf, leaves_of, leaves_among, machine_leaves}
use Rattle.ddm_tree.specs.TreeModel.Turns.Tree.{leaf_of_number, has_node, of_leaf, read_in, read_among}
use Rattle.ddm_tree.proofs.TreeModel.NamedNode.{read_in-is_some}
use Rattle.ddm_tree.proofs.TreeModel.Tests.{and-first, and-second}
use Rattle.ddm_tree.specs.Machine.{is_part}

abbrev number_of : LeafValue → ℕ
number_of v = v.number

-- ---- the leaf of a number is the first one that has it

module _ {A : Type 0} (f : LeafValue → A) (other : A) (k : ℕ) where
  abbrev named : List LeafValue → Option A
  named vs = option_map f (find (λ v. nat_eq v.number k) vs)

  abbrev read : Where → Node → A
  read = of_leaf (λ w v. f v) other

  own-first : (v : LeafValue) (vs : List LeafValue) → named (v ∷ vs) ≡ first_some (if nat_eq v.number k then Some (f v) else None) (named vs)
  own-first v vs = by_test (nat_eq v.number k)
    where
      by_test : (b : Bool) → option_map f (cond b (Some v) (find (λ v. nat_eq v.number k) vs)) ≡ first_some (if b then Some (f v) else None) (named vs)
      by_test true = refl
      by_test false = refl

  part-first : (b : Bool) (here there rest : Option A) → is_some here ≡ b → first_some here (first_some there rest) ≡ first_some (if b then here else there) rest
  part-first true None there rest e = cc
  part-first true (Some a) there rest e = refl
  part-first false None there rest e = refl
  part-first false (Some a) there rest e = cc

  mutual
    named-in : (w : Where) (n : Node) (rest : List LeafValue) → named (leaves_of n rest) ≡ first_some (read_in (leaf_of_number k) read w n) (named rest)
    named-in w (leaf_node v) rest = own-first v rest
    named-in w (dir_node d ns) rest = named-among (where_path w) d 0 ns rest

    named-among : (path : List ℕ) (d : DirValue) (i : ℕ) (ns : Nodes) (rest : List LeafValue) → named (leaves_among ns rest) ≡ first_some (read_among (leaf_of_number k) read path d i ns) (named rest)
    named-among path d i no_nodes rest = refl
    named-among path d i (more_nodes n ns) rest =
        let w = at_child (spot_in path d i) in
        let first = named-in w n (leaves_among ns rest) in
        let others = ap (first_some (read_in (leaf_of_number k) read w n)) (named-among path d (i + 1) ns rest) in
        first ∙ others ∙ part-first (has_node (leaf_of_number k) n) (read_in (leaf_of_number k) read w n) (read_among (leaf_of_number k) read path d (i + 1) ns) (named rest) (read_in-is_some (leaf_of_number k) read w n)

  or-none : (o : Option A) → first_some o None ≡ o
  or-none None = refl
  or-none (Some a) = refl

  named-there : (m : MachineValue) → named (machine_leaves m) ≡ ask_leaf k (λ w v. f v) other m
  named-there m = named-in at_top (root_of m) [] ∙ or-none (read_in (leaf_of_number k) read at_top (root_of m))

-- ---- the leaves' numbers

mutual
  numbers-in : (n : Node) (rest : List LeafValue) → leaf_numbers_of (skeleton n) (map number_of rest) ≡ map number_of (leaves_of n rest)
  numbers-in (leaf_node v) rest = refl
  numbers-in (dir_node d ns) rest = numbers-among ns rest

  numbers-among : (ns : Nodes) (rest : List LeafValue) → leaf_numbers_among (skeletons ns) (map number_of rest) ≡ map number_of (leaves_among ns rest)
  numbers-among no_nodes rest = refl
  numbers-among (more_nodes n ns) rest = ap (leaf_numbers_of (skeleton n)) (numbers-among ns rest) ∙ numbers-in n (leaves_among ns rest)

-- the one at place j of leaves that are numbered from n on
numbered-at : (n j : ℕ) (vs : List LeafValue) → count_from n (map number_of vs) ≡ true → find (λ v. nat_eq v.number (n + j)) vs ≡ slice_get vs j
numbered-at n j [] e = refl
numbered-at n zero (v ∷ vs) e =
    let number : v.number ≡ n = eqb-true v.number n (and-first (nat_eq v.number n) (count_from (n + 1) (map number_of vs)) e) in
    let here : nat_eq v.number (n + 0) ≡ true = eq-eqb _ _ (omega (arith, number)) in
    rw here refl
numbered-at n (suc j) (v ∷ vs) e =
    let number : v.number ≡ n = eqb-true v.number n (and-first (nat_eq v.number n) (count_from (n + 1) (map number_of vs)) e) in
    let elsewhere : nat_eq v.number (n + suc j) ≡ false = ne_eqb _ _ (λ same. omega (arith, number, same)) in
    let next : n + suc j ≡ n + 1 + j = omega arith in
    rw elsewhere (ap (λ k. find (λ v. nat_eq v.number k) vs) next ∙ numbered-at (n + 1) j vs (and-second (nat_eq v.number n) (count_from (n + 1) (map number_of vs)) e))

slice_get-map : {X Y : Type 0} (f : X → Y) (xs : List X) (j : ℕ) → slice_get (map f xs) j ≡ option_map f (slice_get xs j)
slice_get-map f [] j = refl
slice_get-map f (x ∷ xs) zero = refl
slice_get-map f (x ∷ xs) (suc j) = slice_get-map f xs j

pub leaf-listed : {A : Type 0} (f : LeafValue → A) (other : A) (k : ℕ) (m : MachineValue) → IsShaped m → slice_get (map f (machine_leaves m)) k ≡ ask_leaf k (λ w v. f v) other m
leaf-listed f other k m shaped =
    let counted : count_from 0 (map number_of (machine_leaves m)) ≡ true = ap (count_from 0) (sym (numbers-in (root_of m) [])) ∙ shaped.each leaves_numbered in
    slice_get-map f (machine_leaves m) k ∙ ap (option_map f) (sym (numbered-at 0 k (machine_leaves m) counted)) ∙ ap (λ j. option_map f (find (λ v. nat_eq v.number j) (machine_leaves m))) (zero-add k) ∙ named-there f other k m

pub leaves-counted : (m : MachineValue) → (tree_counts m).leaves ≡ length (machine_leaves m)
leaves-counted m = ap length (numbers-in (root_of m) []) ∙ length-map (machine_leaves m) number_of

inside-some : {X : Type 0} (xs : List X) (k : ℕ) → k < length xs → is_some (slice_get xs k) ≡ true
inside-some [] k l = absurd (omega (arith, l))
inside-some (x ∷ xs) zero l = refl
inside-some (x ∷ xs) (suc k) l = inside-some xs k (omega (arith, l))

-- each number below their count is one of a leaf
pub leaf-there : (k : ℕ) (m : MachineValue) → IsShaped m → k < (tree_counts m).leaves → is_part (leaf_of_number k) m ≡ true
leaf-there k m shaped below =
    let size = leaves-counted m in
    let inside : k < length (map number_of (machine_leaves m)) = omega (arith, below, size, length-map (machine_leaves m) number_of) in
    sym (read_in-is_some (leaf_of_number k) (of_leaf (λ w v. v.number) 0) at_top (root_of m)) ∙ ap is_some (sym (leaf-listed number_of 0 k m shaped)) ∙ inside-some (map number_of (machine_leaves m)) k inside

number-at : (n j : ℕ) (vs : List LeafValue) (v : LeafValue) → count_from n (map number_of vs) ≡ true → slice_get vs j ≡ Some v → v.number ≡ n + j
number-at n j [] v e is = cc
number-at n zero (u ∷ us) v e is =
    let number : u.number ≡ n = eqb-true u.number n (and-first (nat_eq u.number n) (count_from (n + 1) (map number_of us)) e) in
    let same : u.number ≡ v.number = cc in
    omega (arith, number, same)
number-at n (suc j) (u ∷ us) v e is =
    let next = number-at (n + 1) j us v (and-second (nat_eq u.number n) (count_from (n + 1) (map number_of us)) e) is in
    omega (arith, next)

-- a leaf has its place as its number
pub leaf-number : (k : ℕ) (m : MachineValue) (v : LeafValue) → IsShaped m → slice_get (machine_leaves m) k ≡ Some v → v.number ≡ k
leaf-number k m v shaped is =
    let counted : count_from 0 (map number_of (machine_leaves m)) ≡ true = ap (count_from 0) (sym (numbers-in (root_of m) [])) ∙ shaped.each leaves_numbered in
    number-at 0 k (machine_leaves m) v counted is ∙ zero-add k
