-- Each level of a tree on its own, for what builds the levels from below: how many nodes stand under it, and what they hold.
use Rattle.std.proofs.Common.{◌≡◌, ℕ, zero, suc, ◌≤◌, true, List, [], ◌∷◌, map, length, drop, refl, ap, subst, ◌∙◌, arith}
use Rattle.std.specs.Prelude.{sum}
use Rattle.std.specs.List.{list_all}
use Rattle.std.proofs.lemmas.List.{length-map}
use Rattle.start_parts.specs.DdmTypes.ItemTable.{item_count}
use Rattle.start_parts.specs.TreeModel.State.Values.{DirSizes, leaf_node}
use Rattle.start_parts.specs.TreeModel.Start.Sources.{TreeValue, ImageValue, last_level, leaf_count}
use Rattle.start_parts.specs.TreeModel.Start.Memory.{start_items}
use Rattle.start_parts.specs.TreeModel.Start.Nodes.{under_levels}
use Rattle.start_parts.specs.TreeModel.Start.Machine.{start_leaves}
use Rattle.start_parts.specs.BusLaws.IsTree.{IsTree, is_width, AreUnder}
use Rattle.start_parts.proofs.BusLaws.StartLevels.{leaf_total, AreLevelsWide}
use Rattle.start_parts.specs.Held.{IsHeld, AreHeld}
use Rattle.start_parts.proofs.NewLeaves.{leaves-length}
use Rattle.start_parts.proofs.HeldBelow.{dir-held}
use Rattle.start_parts.proofs.Levels.{wide-levels, leaves-counted, levels-length, levels-each}
use Rattle.start_parts.proofs.LevelsHeld.{leaves-held}

-- a level of the tree, and those below it
record IsLevel (t : TreeValue) (l : List ℕ) (ls : List (List ℕ)) : Type 0 where
  under : AreUnder (sum l) ls
  wide : AreLevelsWide (l ∷ ls)
  leaves : leaf_count t ≡ leaf_total (sum l) ls

is-level : (t : TreeValue) → IsTree t → (k : ℕ) (l : List ℕ) (ls : List (List ℕ)) → drop k t.levels ≡ l ∷ ls → IsLevel t l ls
is-level t tree k l ls are = at 1 t.levels k (total t.levels refl tree.some) tree.under (wide-levels t.levels tree.widths) are where
  total : (levels : List (List ℕ)) → t.levels ≡ levels → 1 ≤ length levels → leaf_count t ≡ leaf_total 1 levels
  total [] is some = absurd (omega arith)
  total (m ∷ ms) is some = ap (λ levels. sum (last_level levels)) is ∙ leaves-counted m ms

  here : (c : ℕ) (levels : List (List ℕ)) → levels ≡ l ∷ ls → leaf_count t ≡ leaf_total c levels → AreUnder c levels → AreLevelsWide levels → IsLevel t l ls
  here c [] is counted under wide = cc
  here c (m ∷ ms) is counted under wide =
      let counted' : leaf_count t ≡ leaf_total c (l ∷ ls) = subst (λ levels. leaf_count t ≡ leaf_total c levels) is counted in
      let under' : AreUnder c (l ∷ ls) = subst (AreUnder c) is under in
      record { under = under'.1; wide = subst AreLevelsWide is wide; leaves = counted' }

  at : (c : ℕ) (levels : List (List ℕ)) (k : ℕ) → leaf_count t ≡ leaf_total c levels → AreUnder c levels → AreLevelsWide levels → drop k levels ≡ l ∷ ls → IsLevel t l ls
  at c levels zero counted under wide is = here c levels is counted under wide
  at c [] (suc k) counted under wide is = cc
  at c (m ∷ ms) (suc k) counted under wide is = at (sum m) ms k counted under.1 wide.1 is

pub level-wide : (t : TreeValue) → IsTree t → (k : ℕ) (l : List ℕ) (ls : List (List ℕ)) → drop k t.levels ≡ l ∷ ls → list_all is_width l ≡ true
level-wide t tree k l ls are = (is-level t tree k l ls are).wide.0

module _ (t : TreeValue) (i : ImageValue) (tree : IsTree t) (k : ℕ) (l : List ℕ) (ls : List (List ℕ)) (are : drop k t.levels ≡ l ∷ ls) where
  leaves-total : length (map leaf_node (start_leaves t i)) ≡ leaf_total (sum l) ls
  leaves-total = length-map (start_leaves t i) leaf_node ∙ leaves-length t i ∙ (is-level t tree k l ls are).leaves

  module _ (sizes : DirSizes) (level bus : ℕ) where
    pub level-count : length (under_levels sizes level bus ls (map leaf_node (start_leaves t i))) ≡ sum l
    level-count = levels-length sizes (map leaf_node (start_leaves t i)) level bus (sum l) ls (is-level t tree k l ls are).under leaves-total

    pub level-held : AreHeld (item_count (start_items t i)) (under_levels sizes level bus ls (map leaf_node (start_leaves t i)))
    level-held =
        let h = is-level t tree k l ls are in
        levels-each sizes (map leaf_node (start_leaves t i)) (IsHeld (item_count (start_items t i))) (dir-held (item_count (start_items t i)) sizes) level bus (sum l) ls h.under h.wide.1 leaves-total (leaves-held t i)
