-- The levels of a tree of buses: for each level, from the top, the numbers of children of its buses from left to right.
use Rattle.std.specs.Prelude.{ℕ, ◌+◌, ◌≡◌, ◌≤◌, suc, zero, Bool, ◌&&◌, not, nat_eq, nat_le, List, [], ◌∷◌, ◌++◌, map}
use Rattle.std.specs.Prelude.{length, sum, slice_index, IsTrue}
use Rattle.std.specs.List.{list_all, list_any, range_with_len}
use Rattle.tree_model.specs.Start.Sources.{TreeValue, leaf_count, bus_widths}
use Rattle.tree_config.specs.ShapeText.{Tree, Trees, leaf_tree, group_tree, no_trees, more_trees}

-- ---- what a tree of groups and leaves is

abbrev mutual
  -- how many groups are round each leaf, from left to right, where this many are round the node
  pub leaf_depths : ℕ → Tree → List ℕ
  leaf_depths d leaf_tree = d ∷ []
  leaf_depths d (group_tree t ts) = leaf_depths (d + 1) t ++ all_leaf_depths (d + 1) ts

  pub all_leaf_depths : ℕ → Trees → List ℕ
  all_leaf_depths d no_trees = []
  all_leaf_depths d (more_trees t ts) = leaf_depths d t ++ all_leaf_depths d ts

-- the depth of the first leaf
abbrev pub depth_of : Tree → ℕ
depth_of t = slice_index (leaf_depths 0 t) 0

-- two leaves have different depths
abbrev pub is_uneven : Tree → Bool
is_uneven t = list_any (λ d. not (nat_eq d (depth_of t))) (leaf_depths 0 t)

abbrev pub tree_count : Trees → ℕ
tree_count no_trees = 0
tree_count (more_trees t ts) = 1 + tree_count ts

abbrev mutual
  -- the numbers of nodes of the groups that have this many groups round them inside the node
  pub widths_at : ℕ → Tree → List ℕ
  widths_at n leaf_tree = []
  widths_at zero (group_tree t ts) = (1 + tree_count ts) ∷ []
  widths_at (suc n) (group_tree t ts) = widths_at n t ++ all_widths_at n ts

  pub all_widths_at : ℕ → Trees → List ℕ
  all_widths_at n no_trees = []
  all_widths_at n (more_trees t ts) = widths_at n t ++ all_widths_at n ts

-- each group is a bus, and its nodes are the children
abbrev pub levels_of : Tree → List (List ℕ)
levels_of t = map (λ n. widths_at n t) (range_with_len 0 (depth_of t))

-- ---- what levels say

-- a tree with these levels; its sizes aren't looked at
abbrev pub with_levels : List (List ℕ) → TreeValue
with_levels levels = record {
  levels = levels;
  way_count = 1;
  sizes = record { sets = 1; buffer = 1; parking = 1; down = 1; requests = 1; replies = 1 };
  stack_base = 0;
  stack_bytes = 0;
  item_bytes = 16;
}

abbrev pub leaves_of : List (List ℕ) → ℕ
leaves_of levels = leaf_count (with_levels levels)

-- the number of children of each bus, by the buses' numbers
abbrev pub widths_of : List (List ℕ) → List ℕ
widths_of levels = bus_widths (with_levels levels)

-- the first level has this many buses, and each next one as many as the level above it has children
abbrev pub AreUnder : ℕ → List (List ℕ) → Type 0
AreUnder n [] = Unit {0}
AreUnder n (l ∷ ls) = (length l ≡ n) × AreUnder (sum l) ls

-- a number of children that a bus may have
abbrev pub is_width : ℕ → Bool
is_width n = nat_le 1 n && nat_le n 16

-- the levels of a shape that is accepted
pub record IsShape (levels : List (List ℕ)) : Type 0 where
  pub some : 1 ≤ length levels
  pub depth : length levels ≤ 4
  pub under : AreUnder 1 levels
  pub widths : IsTrue (list_all is_width (widths_of levels))
  pub leaves : leaves_of levels ≤ 64
