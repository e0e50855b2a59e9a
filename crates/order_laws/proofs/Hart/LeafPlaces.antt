-- Leaves by place and number: each is as deep as the tree, no two have one number, and the key that it gives now ends with
-- the tree's levels.
use Rattle.std.proofs.Common.{◌≡◌, ℕ, zero, suc, ◌+◌, ◌≤◌, true, nat_eq, nat_le, List, [], ◌∷◌, ◌++◌, map, length, refl, sym, ap, ◌∙◌, append_assoc, arith}
use Rattle.std.specs.List.{AllByRecursion}
use Rattle.std.proofs.lemmas.Bool.{and_parts, eqb-true, leb-true}
use Rattle.std.proofs.lemmas.List.{length-append, append-nil, map-append}
use Rattle.order_laws.specs.DdmTypes.declared.keys.Stamp.{Stamp}
use Rattle.order_laws.specs.DdmTypes.Keys.{stamp_at, key_numbers}
use Rattle.order_laws.specs.TreeModel.State.Values.{DirValue, Node, Nodes, leaf_node, dir_node, no_nodes, more_nodes, MachineValue}
use Rattle.order_laws.specs.TreeModel.State.Directory.{stamp_of}
use Rattle.order_laws.specs.TreeModel.State.Place.{Spot, at_child, spot_path, spot_in, key_at_leaf}
use Rattle.order_laws.specs.TreeModel.State.Shape.{skeleton, skeletons, levels_fit, levels_fit_among, leaf_numbers_of, leaf_numbers_among, count_from, depth_of, levels_known, leaves_numbered, IsShaped}
use Rattle.order_laws.specs.TreeRules.Bus.Own.{no_epoch, IsTopOk}
use Rattle.order_laws.specs.TreeRules.Statements.{Holds}
use Rattle.order_laws.specs.TreeRules.Order.Places.{LeafAt, leaf_path, leaf_now, DirAt, leaves_in, placed_leaves, leaves_at, dirs_in, placed_dirs, dirs_at}
use Rattle.order_laws.specs.TreeRules.Order.Time.{key_ends, stamp_ends, epoch_ends}
use Rattle.order_laws.proofs.TreeRules.KeysNow.{key-now}
use Rattle.order_lists.proofs.Filters.{each-weaker, each-both, each-append, each-left, each-right}

-- ---- the key that a leaf gives now

-- the stamp of the bus below a directory has numbers down to that bus alone
stamp_at-ends : (level n : ℕ) (stamp : Stamp) → level ≤ 3 → stamp_ends level stamp ≡ true → stamp_ends (level + 1) (stamp_at stamp level n) ≡ true
stamp_at-ends zero n stamp l h = (and_parts _ _ h).1
stamp_at-ends (suc zero) n stamp l h = (and_parts _ _ h).1
stamp_at-ends (suc (suc zero)) n stamp l h = (and_parts _ _ h).1
stamp_at-ends (suc (suc (suc zero))) n stamp l h = refl
stamp_at-ends (suc (suc (suc (suc level)))) n stamp l h = absurd (omega (arith, l))

by_path : (above : List ℕ) (number : ℕ) (present : Stamp) (done : ℕ) → length above ≤ 3 → stamp_ends (length above + 1) present ≡ true → (let c : Spot = record { above = above; number = number; present = present } in key_ends (length above + 1) (key_at_leaf (at_child c) done) ≡ true)
by_path [] number present done l h = h
by_path (a ∷ []) number present done l h = h
by_path (a ∷ b ∷ []) number present done l h = h
by_path (a ∷ b ∷ c ∷ []) number present done l h = h
by_path (a ∷ b ∷ c ∷ d ∷ above) number present done l h = absurd (omega (arith, l))

-- of a leaf in a tree of this depth
pub record IsPlaced (depth : ℕ) (a : LeafAt) : Type 0 where
  pub depth_is : length a.spot.above + 1 ≡ depth
  pub deep : length a.spot.above ≤ 3
  pub ends : stamp_ends (length a.spot.above + 1) a.spot.present ≡ true

pub placed-length : (depth : ℕ) (a : LeafAt) → IsPlaced depth a → length (leaf_path a) ≡ depth
placed-length depth a s = length-append a.spot.above (a.spot.number ∷ []) ∙ s.depth_is

pub placed-now : (depth : ℕ) (a : LeafAt) → IsPlaced depth a → key_numbers depth (key_at_leaf (at_child a.spot) a.leaf.done) ≡ leaf_now a
placed-now depth a s = ap (λ n. key_numbers n (key_at_leaf (at_child a.spot) a.leaf.done)) (sym s.depth_is) ∙ key-now a.spot a.leaf.done s.deep

pub placed-ends : (depth : ℕ) (a : LeafAt) → IsPlaced depth a → key_ends depth (key_at_leaf (at_child a.spot) a.leaf.done) ≡ true
placed-ends depth a s = ap (λ n. key_ends n (key_at_leaf (at_child a.spot) a.leaf.done)) (sym s.depth_is) ∙ by_path a.spot.above a.spot.number a.spot.present a.leaf.done s.deep s.ends

module _ (depth : ℕ) where
  abbrev EpochsEnd : List DirAt → Type 0
  EpochsEnd cs = AllByRecursion (λ c. Holds (epoch_ends c)) cs

  mutual
    leaves_placed : (c : Spot) (n : Node) → levels_fit depth (length (spot_path c)) (skeleton n) ≡ true → EpochsEnd (dirs_in c n) → length c.above ≤ 3 → stamp_ends (length c.above + 1) c.present ≡ true → AllByRecursion (IsPlaced depth) (leaves_in c n)
    leaves_placed c (leaf_node v) fit epochs l ends = (record { depth_is = sym (length-append c.above (c.number ∷ [])) ∙ eqb-true _ _ fit; deep = l; ends = ends }, tt)
    leaves_placed c (dir_node d ns) fit epochs l ends =
        let level = and_parts (nat_eq d.level (length (spot_path c))) _ fit in
        let deep = and_parts (nat_le (length (spot_path c)) 3) _ level.1 in
        children_placed (spot_path c) d 0 ns deep.1 epochs.1 (eqb-true _ _ level.0) (leb-true _ _ deep.0) epochs.0

    children_placed : (path : List ℕ) (d : DirValue) (i : ℕ) (ns : Nodes) → levels_fit_among depth (length path + 1) (skeletons ns) ≡ true → EpochsEnd (placed_dirs path d i ns) → d.level ≡ length path → length path ≤ 3 → stamp_ends (length path) d.epoch ≡ true → AllByRecursion (IsPlaced depth) (placed_leaves path d i ns)
    children_placed path d i no_nodes fit epochs level l ends = tt
    children_placed path d i (more_nodes n ns) fit epochs level l ends =
        let parts = and_parts (levels_fit depth (length path + 1) (skeleton n)) _ fit in
        let first : levels_fit depth (length (spot_path (spot_in path d i))) (skeleton n) ≡ true = ap (λ k. levels_fit depth k (skeleton n)) (length-append path (i ∷ [])) ∙ parts.0 in
        let stamp : stamp_ends (length path + 1) (stamp_of d) ≡ true = ap (λ k. stamp_ends (length path + 1) (stamp_at d.epoch k d.count)) level ∙ stamp_at-ends (length path) d.count d.epoch l ends in
        each-append (IsPlaced depth) (leaves_in (spot_in path d i) n) (placed_leaves path d (i + 1) ns) (leaves_placed (spot_in path d i) n first (each-left _ (dirs_in (spot_in path d i) n) (placed_dirs path d (i + 1) ns) epochs) l stamp) (children_placed path d (i + 1) ns parts.1 (each-right _ (dirs_in (spot_in path d i) n) (placed_dirs path d (i + 1) ns) epochs) level l ends)

pub all_placed : (m : MachineValue) → IsShaped m → IsTopOk m.top → AllByRecursion (λ c. Holds (epoch_ends c)) (dirs_at m) → AllByRecursion (IsPlaced (depth_of m)) (leaves_at m)
unfolding leaves_at dirs_at
all_placed m shaped top epochs =
    let level = and_parts (nat_eq m.top.level 0) _ (shaped.each levels_known) in
    let deep = and_parts (nat_le 0 3) _ level.1 in
    children_placed (depth_of m) [] m.top 0 m.kids deep.1 epochs (eqb-true _ _ level.0) (omega arith) (top.each no_epoch)

-- ---- numbers

abbrev number_of : LeafAt → ℕ
number_of a = a.leaf.number

mutual
  numbers_in : (c : Spot) (n : Node) (rest : List ℕ) → leaf_numbers_of (skeleton n) rest ≡ map number_of (leaves_in c n) ++ rest
  numbers_in c (leaf_node v) rest = refl
  numbers_in c (dir_node d ns) rest = numbers_among (spot_path c) d 0 ns rest

  numbers_among : (path : List ℕ) (d : DirValue) (i : ℕ) (ns : Nodes) (rest : List ℕ) → leaf_numbers_among (skeletons ns) rest ≡ map number_of (placed_leaves path d i ns) ++ rest
  numbers_among path d i no_nodes rest = refl
  numbers_among path d i (more_nodes n ns) rest =
      numbers_in (spot_in path d i) n (leaf_numbers_among (skeletons ns) rest) ∙ ap (λ l. map number_of (leaves_in (spot_in path d i) n) ++ l) (numbers_among path d (i + 1) ns rest) ∙ sym (append_assoc (map number_of (leaves_in (spot_in path d i) n)) (map number_of (placed_leaves path d (i + 1) ns)) rest)
      ∙ ap (λ l. l ++ rest) (sym (map-append number_of (leaves_in (spot_in path d i) n) (placed_leaves path d (i + 1) ns)))

-- leaves that are counted from a number on have no lesser one
from_count : (n : ℕ) (ls : List LeafAt) → count_from n (map number_of ls) ≡ true → AllByRecursion (λ a. n ≤ a.leaf.number) ls
from_count n [] h = tt
from_count n (a ∷ ls) h =
    let parts = and_parts (nat_eq a.leaf.number n) _ h in
    let first : a.leaf.number ≡ n = eqb-true _ _ parts.0 in
    (omega (arith, first), each-weaker (λ b. n + 1 ≤ b.leaf.number) (λ b. n ≤ b.leaf.number) (λ b l. omega (arith, l)) ls (from_count (n + 1) ls parts.1))

-- a leaf with this one's number is this one
abbrev pub IsOnlyOf : LeafAt → LeafAt → Type 0
IsOnlyOf a b = b.leaf.number ≡ a.leaf.number → b ≡ a

one_number : (n : ℕ) (ls : List LeafAt) → count_from n (map number_of ls) ≡ true → AllByRecursion (λ a. AllByRecursion (IsOnlyOf a) ls) ls
one_number n [] h = tt
one_number n (a ∷ ls) h =
    let parts = and_parts (nat_eq a.leaf.number n) _ h in
    let first : a.leaf.number ≡ n = eqb-true _ _ parts.0 in
    let later : AllByRecursion (λ b. n + 1 ≤ b.leaf.number) ls = from_count (n + 1) ls parts.1 in
    ((λ e. refl, each-weaker _ (IsOnlyOf a) (λ b l e. absurd (omega (arith, l, e, first))) ls later), each-both _ _ (λ b. AllByRecursion (IsOnlyOf b) (a ∷ ls)) (λ b l k. (λ e. absurd (omega (arith, l, e, first)), k)) ls later (one_number (n + 1) ls parts.1))

pub one_of_number : (m : MachineValue) → IsShaped m → AllByRecursion (λ a. AllByRecursion (IsOnlyOf a) (leaves_at m)) (leaves_at m)
unfolding leaves_at
one_of_number m shaped = one_number 0 (placed_leaves [] m.top 0 m.kids) (ap (count_from 0) (sym (numbers_among [] m.top 0 m.kids [] ∙ append-nil (map number_of (placed_leaves [] m.top 0 m.kids)))) ∙ shaped.each leaves_numbered)
