-- The levels of buses over the leaves: what each directory has where its children have it, and how many leaves and levels.
use Rattle.std.proofs.Common.{◌≡◌, ℕ, zero, suc, ◌+◌, ◌≤◌, true, List, [], ◌∷◌, ◌++◌, length, take, drop, refl, sym, ap, subst, ◌∙◌, add-one, arith}
use Rattle.std.specs.Prelude.{sum}
use Rattle.std.specs.List.{AllByRecursion, list_all, flat_map}
use Rattle.std.proofs.lemmas.Bool.{and_parts}
use Rattle.std.proofs.lemmas.List.Concat.{flat_map-cons}
use Rattle.std.proofs.lemmas.List.Folds.{list_all-append}
use Rattle.start_parts.specs.TreeModel.State.Values.{DirSizes, Node, nodes}
use Rattle.start_parts.specs.TreeModel.State.Shape.{skeleton, skeletons, first_levels, leaf_numbers_of, leaf_numbers_among}
use Rattle.start_parts.specs.TreeModel.Start.Sources.{TreeValue, last_level, leaf_count}
use Rattle.start_parts.specs.TreeModel.Start.Nodes.{cut_in, dir_over, dirs_over, under_levels}
use Rattle.start_parts.specs.BusLaws.IsTree.{IsTree, is_width, AreUnder}
use Rattle.start_parts.proofs.BusLaws.StartLevels.{each-take, each-drop, sum-more, width-parts, leaf_total, AreLevelsWide, sum-some}

-- ---- parts of a list

take-length : {X : Type 0} (k : ℕ) (xs : List X) → k ≤ length xs → length (take k xs) ≡ k
take-length zero xs h = refl
take-length (suc k) [] h = absurd (omega arith)
take-length (suc k) (x ∷ xs) h = ap suc (take-length k xs (omega arith))

drop-length : {X : Type 0} (k m : ℕ) (xs : List X) → length xs ≡ k + m → length (drop k xs) ≡ m
drop-length zero m xs h = omega arith
drop-length (suc k) m [] h = absurd (omega arith)
drop-length (suc k) m (x ∷ xs) h = drop-length k m xs (omega arith)

numbers-parts : (k : ℕ) (ns : List Node) (rest : List ℕ) → leaf_numbers_among (skeletons (nodes (take k ns))) (leaf_numbers_among (skeletons (nodes (drop k ns))) rest) ≡ leaf_numbers_among (skeletons (nodes ns)) rest
numbers-parts zero ns rest = refl
numbers-parts (suc k) [] rest = refl
numbers-parts (suc k) (n ∷ ns) rest = ap (leaf_numbers_of (skeleton n)) (numbers-parts k ns rest)

-- ---- one level of buses over nodes

module _ (sizes : DirSizes) where
  dirs-length : (level bus : ℕ) (l : List ℕ) (ns : List Node) → length (dirs_over sizes level bus (cut_in l ns)) ≡ length l
  dirs-length level bus [] ns = refl
  dirs-length level bus (k ∷ l) ns = ap suc (dirs-length level (bus + 1) l (drop k ns))

  dirs-numbers : (level bus : ℕ) (l : List ℕ) (ns : List Node) (rest : List ℕ) → length ns ≡ sum l → leaf_numbers_among (skeletons (nodes (dirs_over sizes level bus (cut_in l ns)))) rest ≡ leaf_numbers_among (skeletons (nodes ns)) rest
  dirs-numbers level bus [] [] rest count = refl
  dirs-numbers level bus [] (n ∷ ns) rest count = absurd (omega arith)
  dirs-numbers level bus (k ∷ l) ns rest count =
      let more = sum-more k l in
      let others : length (drop k ns) ≡ sum l = drop-length k (sum l) ns (omega arith) in
      ap (leaf_numbers_among (skeletons (nodes (take k ns)))) (dirs-numbers level (bus + 1) l (drop k ns) rest others) ∙ numbers-parts k ns rest

  dirs-first : (level bus : ℕ) (l : List ℕ) (ns : List Node) → 1 ≤ length l → list_all is_width l ≡ true → first_levels (skeletons (nodes (dirs_over sizes level bus (cut_in l ns)))) ≡ first_levels (skeletons (nodes ns)) + 1
  dirs-first level bus [] ns some wide = absurd (omega arith)
  dirs-first level bus (k ∷ l) ns some wide =
      let width = width-parts k (and_parts (is_width k) (list_all is_width l) wide).0 in
      ap (λ d. d + 1) (first-of_take k ns width.0)
    where
      first-of_take : (k : ℕ) (ns : List Node) → 1 ≤ k → first_levels (skeletons (nodes (take k ns))) ≡ first_levels (skeletons (nodes ns))
      first-of_take zero ns h = absurd (omega arith)
      first-of_take (suc k) [] h = refl
      first-of_take (suc k) (n ∷ ns) h = refl

  -- what a directory has where its children have it
  module _ (P : Node → Type 0) (over : (level bus : ℕ) (ks : List Node) → 1 ≤ length ks → AllByRecursion P ks → P (dir_over sizes level bus ks)) where
    pub dirs-each : (level bus : ℕ) (l : List ℕ) (ns : List Node) → list_all is_width l ≡ true → length ns ≡ sum l → AllByRecursion P ns → AllByRecursion P (dirs_over sizes level bus (cut_in l ns))
    dirs-each level bus [] ns wide count each = tt
    dirs-each level bus (k ∷ l) ns wide count each =
        let parts = and_parts (is_width k) (list_all is_width l) wide in
        let width = width-parts k parts.0 in
        let more = sum-more k l in
        let mine : length (take k ns) ≡ k = take-length k ns (omega arith) in
        let others : length (drop k ns) ≡ sum l = drop-length k (sum l) ns (omega arith) in
        (over level bus (take k ns) (omega (arith, mine, width.0)) (each-take P k ns each), dirs-each level (bus + 1) l (drop k ns) parts.1 others (each-drop P k ns each))

  -- ---- all levels

  module _ (leaves : List Node) where
    pub levels-length : (level bus c : ℕ) (ls : List (List ℕ)) → AreUnder c ls → length leaves ≡ leaf_total c ls → length (under_levels sizes level bus ls leaves) ≡ c
    levels-length level bus c [] under count = count
    levels-length level bus c (l ∷ ls) under count = dirs-length level bus l (under_levels sizes (level + 1) (bus + length l) ls leaves) ∙ under.0

    pub levels-numbers : (level bus c : ℕ) (ls : List (List ℕ)) (rest : List ℕ) → AreUnder c ls → length leaves ≡ leaf_total c ls → leaf_numbers_among (skeletons (nodes (under_levels sizes level bus ls leaves))) rest ≡ leaf_numbers_among (skeletons (nodes leaves)) rest
    levels-numbers level bus c [] rest under count = refl
    levels-numbers level bus c (l ∷ ls) rest under count =
        dirs-numbers level bus l (under_levels sizes (level + 1) (bus + length l) ls leaves) rest (levels-length (level + 1) (bus + length l) (sum l) ls under.1 count)
        ∙ levels-numbers (level + 1) (bus + length l) (sum l) ls rest under.1 count

    pub levels-first : (level bus c : ℕ) (ls : List (List ℕ)) → 1 ≤ c → AreUnder c ls → AreLevelsWide ls → first_levels (skeletons (nodes leaves)) ≡ 0 → first_levels (skeletons (nodes (under_levels sizes level bus ls leaves))) ≡ length ls
    levels-first level bus c [] some under wide none = none
    levels-first level bus c (l ∷ ls) some under wide none =
        let some_l : 1 ≤ length l = omega (arith, under.0) in
        dirs-first level bus l (under_levels sizes (level + 1) (bus + length l) ls leaves) some_l wide.0
        ∙ ap (λ k. k + 1) (levels-first (level + 1) (bus + length l) (sum l) ls (sum-some l some_l wide.0) under.1 wide.1 none) ∙ add-one (length ls)

    module _ (P : Node → Type 0) (over : (level bus : ℕ) (ks : List Node) → 1 ≤ length ks → AllByRecursion P ks → P (dir_over sizes level bus ks)) where
      pub levels-each : (level bus c : ℕ) (ls : List (List ℕ)) → AreUnder c ls → AreLevelsWide ls → length leaves ≡ leaf_total c ls → AllByRecursion P leaves → AllByRecursion P (under_levels sizes level bus ls leaves)
      levels-each level bus c [] under wide count each = each
      levels-each level bus c (l ∷ ls) under wide count each =
          dirs-each P over level bus l (under_levels sizes (level + 1) (bus + length l) ls leaves) wide.0 (levels-length (level + 1) (bus + length l) (sum l) ls under.1 count)
          (levels-each (level + 1) (bus + length l) (sum l) ls under.1 wide.1 count each)

-- ---- the levels of a tree

pub wide-levels : (ls : List (List ℕ)) → list_all is_width (flat_map (λ l. l) ls) ≡ true → AreLevelsWide ls
wide-levels [] h = tt
wide-levels (l ∷ ls) h =
    let split : list_all is_width (l ++ flat_map (λ l. l) ls) ≡ true = subst (λ ws. list_all is_width ws ≡ true) (flat_map-cons (λ (l : List ℕ). l) l ls) h in
    let parts = and_parts (list_all is_width l) (list_all is_width (flat_map (λ l. l) ls)) (sym (list_all-append is_width l (flat_map (λ l. l) ls)) ∙ split) in
    (parts.0, wide-levels ls parts.1)

pub leaves-counted : (l : List ℕ) (ls : List (List ℕ)) → sum (last_level (l ∷ ls)) ≡ leaf_total (sum l) ls
leaves-counted l [] = refl
leaves-counted l (m ∷ ls) = leaves-counted m ls

-- the first level of a tree, and those below it
pub record HasFirst (t : TreeValue) : Type 0 where
  pub first : List ℕ
  pub others : List (List ℕ)
  pub are : t.levels ≡ first ∷ others
  pub some : 1 ≤ sum first
  pub under : AreUnder (sum first) others
  pub wide : AreLevelsWide others
  pub leaves : leaf_count t ≡ leaf_total (sum first) others

pub has-first : (t : TreeValue) → IsTree t → HasFirst t
has-first t tree = of t.levels refl tree.some tree.under (wide-levels t.levels tree.widths) where
  of : (levels : List (List ℕ)) → t.levels ≡ levels → 1 ≤ length levels → AreUnder 1 levels → AreLevelsWide levels → HasFirst t
  of [] are some under wide = absurd (omega arith)
  of (l ∷ ls) are some under wide = record {
    first = l;
    others = ls;
    are = are;
    some = sum-some l (omega (arith, under.0)) wide.0;
    under = under.1;
    wide = wide.1;
    leaves = ap (λ levels. sum (last_level levels)) are ∙ leaves-counted l ls;
  }
