-- What no turn changes of a machine: which nodes it has, the numbers of its buses and leaves, the levels that its directories
-- know, all sizes, its code and its table of items. The shape is a fact of these alone.
-- To be believed with the laws: it is what they speak of.
use Rattle.std.specs.Prelude.{ℕ, ◌+◌, ◌%◌, Bool, true, not, ◌&&◌, nat_eq, nat_lt, nat_le, List, [], ◌∷◌, length, IsTrue}
use Rattle.std.specs.List.{list_any, list_all}
use Rattle.tree_model.specs.DdmTypes.declared.sizes.TreeCounts.{TreeCounts}
use Rattle.tree_model.specs.DdmTypes.ItemTable.{ItemTable, ItemRow}
use Rattle.tree_model.specs.DdmTypes.CodeMap.{CodeWord}
use Rattle.tree_model.specs.State.Values.{LeafSizes, DirSizes, Node, Nodes, leaf_node, dir_node, no_nodes, more_nodes}
use Rattle.tree_model.specs.State.Values.{MachineValue, root_of}

-- ---- the skeleton of a tree

-- a leaf by its number and sizes, a directory by its bus, its level and its sizes
mutual
  pub data Skeleton : Type 0 where
    leaf_bone : ℕ → LeafSizes → Skeleton
    dir_bone : ℕ → ℕ → DirSizes → Skeletons → Skeleton

  pub data Skeletons : Type 0 where
    no_bones : Skeletons
    more_bones : Skeleton → Skeletons → Skeletons

abbrev mutual
  pub skeleton : Node → Skeleton
  skeleton (leaf_node v) = leaf_bone v.number v.sizes
  skeleton (dir_node d ns) = dir_bone d.bus d.level d.sizes (skeletons ns)

  pub skeletons : Nodes → Skeletons
  skeletons no_nodes = no_bones
  skeletons (more_nodes n ns) = more_bones (skeleton n) (skeletons ns)

-- the skeleton, the code, the table of items, and for how many buses traffic is counted
pub record Frame : Type 0 where
  pub bones : Skeleton
  pub code : List CodeWord
  pub items : ItemTable
  pub counted : ℕ

abbrev pub frame_of : MachineValue → Frame
frame_of m = record { bones = skeleton (root_of m); code = m.code; items = m.items; counted = length m.traffic }

-- ---- levels

-- how many levels of buses are below a node, along its first children
abbrev mutual
  pub levels_of : Skeleton → ℕ
  levels_of (leaf_bone number sizes) = 0
  levels_of (dir_bone bus level sizes bones) = first_levels bones + 1

  pub first_levels : Skeletons → ℕ
  first_levels no_bones = 0
  first_levels (more_bones b bs) = levels_of b

abbrev pub depth_of : MachineValue → ℕ
depth_of m = levels_of (skeleton (root_of m))

-- a directory knows how many buses are above its own, of which there are three at most, and all leaves are at one depth
abbrev mutual
  pub levels_fit : ℕ → ℕ → Skeleton → Bool
  levels_fit depth above (leaf_bone number sizes) = nat_eq above depth
  levels_fit depth above (dir_bone bus level sizes bones) =
      nat_eq level above && (nat_le above 3 && levels_fit_among depth (above + 1) bones)

  pub levels_fit_among : ℕ → ℕ → Skeletons → Bool
  levels_fit_among depth above no_bones = true
  levels_fit_among depth above (more_bones b bs) = levels_fit depth above b && levels_fit_among depth above bs

abbrev pub bone_count : Skeletons → ℕ
bone_count no_bones = 0
bone_count (more_bones b bs) = bone_count bs + 1

-- each bus has 1 to 16 children
abbrev mutual
  pub widths_fit : Skeleton → Bool
  widths_fit (leaf_bone number sizes) = true
  widths_fit (dir_bone bus level sizes bones) = nat_lt 0 (bone_count bones) && (nat_le (bone_count bones) 16 && widths_fit_among bones)

  pub widths_fit_among : Skeletons → Bool
  widths_fit_among no_bones = true
  widths_fit_among (more_bones b bs) = widths_fit b && widths_fit_among bs

-- ---- numbers

abbrev mutual
  -- the numbers of the buses of a part of the tree, before others
  pub buses_of : Skeleton → List ℕ → List ℕ
  buses_of (leaf_bone number sizes) rest = rest
  buses_of (dir_bone bus level sizes bones) rest = bus ∷ buses_among bones rest

  pub buses_among : Skeletons → List ℕ → List ℕ
  buses_among no_bones rest = rest
  buses_among (more_bones b bs) rest = buses_of b (buses_among bs rest)

abbrev mutual
  -- the numbers of the leaves of a part of the tree, from left to right, before others
  pub leaf_numbers_of : Skeleton → List ℕ → List ℕ
  leaf_numbers_of (leaf_bone number sizes) rest = number ∷ rest
  leaf_numbers_of (dir_bone bus level sizes bones) rest = leaf_numbers_among bones rest

  pub leaf_numbers_among : Skeletons → List ℕ → List ℕ
  leaf_numbers_among no_bones rest = rest
  leaf_numbers_among (more_bones b bs) rest = leaf_numbers_of b (leaf_numbers_among bs rest)

-- how many leaves, buses and levels of buses a machine has
abbrev pub tree_counts : MachineValue → TreeCounts
tree_counts m = record {
  leaves = length (leaf_numbers_of (skeleton (root_of m)) []);
  buses = length (buses_of (skeleton (root_of m)) []);
  depth = depth_of m;
}

-- no number comes twice
abbrev pub are_distinct : List ℕ → Bool
are_distinct [] = true
are_distinct (n ∷ ns) = not (list_any (nat_eq n) ns) && are_distinct ns

-- each number is one more than the one before it, and the first is n
abbrev pub count_from : ℕ → List ℕ → Bool
count_from n [] = true
count_from n (k ∷ ks) = nat_eq k n && count_from (n + 1) ks

-- each is less than this
abbrev pub are_below : ℕ → List ℕ → Bool
are_below bound ns = list_all (λ n. nat_lt n bound) ns

abbrev pub is_whole_word : ItemRow → Bool
is_whole_word row = nat_eq (row.address % 4) 0

-- ---- the shape

pub data ShapeRule : Type 0 where
  -- each directory knows how many buses are above its own, three at most, and all leaves are at one depth
  levels_known : ShapeRule
  -- each bus has 1 to 16 children
  widths_bounded : ShapeRule
  -- no two buses have one number
  buses_differ : ShapeRule
  -- traffic is counted for each bus: their numbers are below how many there are
  traffic_counted : ShapeRule
  -- leaves are numbered from left to right
  leaves_numbered : ShapeRule
  -- items begin and end at whole words
  items_of_words : ShapeRule

abbrev pub shape_test : ShapeRule → Frame → Bool
shape_test levels_known f = levels_fit (levels_of f.bones) 0 f.bones
shape_test widths_bounded f = widths_fit f.bones
shape_test buses_differ f = are_distinct (buses_of f.bones [])
shape_test traffic_counted f = nat_eq (length (buses_of f.bones [])) f.counted && are_below f.counted (buses_of f.bones [])
shape_test leaves_numbered f = count_from 0 (leaf_numbers_of f.bones [])
shape_test items_of_words f = nat_eq (f.items.size % 4) 0 && list_all is_whole_word f.items.rows

abbrev pub shape_rules : List ShapeRule
shape_rules = levels_known ∷ widths_bounded ∷ buses_differ ∷ traffic_counted ∷ leaves_numbered ∷ items_of_words ∷ []

pub record IsShaped (m : MachineValue) : Type 0 where
  pub each : (r : ShapeRule) → IsTrue (shape_test r (frame_of m))

-- as a test
abbrev pub is_shaped : MachineValue → Bool
is_shaped m = list_all (λ r. shape_test r (frame_of m)) shape_rules
