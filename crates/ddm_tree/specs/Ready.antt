-- What a call on a machine, or on a part of it, needs to be safe.
-- Letters: n is a node, d a directory over the nodes ns.
-- To be believed with the contracts: it says which machines a call takes.
use Rattle.std.specs.Prelude.{◌≡◌, ℕ, ◌<◌, ◌^◌, Bool, true, ◌&&◌, nat_eq, List, [], length, Some, ⊤}
use Rattle.ddm_tree.specs.TreeModel.declared.BusTurn.{BusTurn}
use Rattle.ddm_tree.specs.TreeModel.State.Values.{Node, leaf_node, dir_node, children}
use Rattle.ddm_tree.specs.TreeModel.State.Rooms.{all_within}
use Rattle.ddm_tree.specs.TreeModel.State.Shape.{Skeleton, Skeletons, leaf_bone, dir_bone, no_bones, more_bones, skeleton, widths_fit}
use Rattle.ddm_tree.specs.TreeModel.Turns.Tree.{Name}
use Rattle.ddm_tree.specs.TreeModel.Turns.Children.{child_at}
use Rattle.ddm_tree.specs.TreeRules.Bus.Rules.{IsTreeOk}
use Rattle.ddm_tree.specs.ItemStates.Parts.{node_items}
use Rattle.split_bus.specs.Outcomes.{NamesOneOf}
use Rattle.ddm_tree.specs.Path.{path_to}
use Rattle.ddm_tree.specs.Counts.{counts_within}

-- an item has so many words everywhere
abbrev mutual
  pub words_are : ℕ → Skeleton → Bool
  words_are width (leaf_bone number sizes) = nat_eq sizes.width width
  words_are width (dir_bone bus level sizes bones) = nat_eq sizes.width width && words_are_among width bones

  pub words_are_among : ℕ → Skeletons → Bool
  words_are_among width no_bones = true
  words_are_among width (more_bones b bs) = words_are width b && words_are_among width bs

-- each list within its room and a place for each of so many items; 1 to 16 children at each bus; items of this width; and
-- every count may rise by one more
pub record IsReady (items width : ℕ) (n : Node) : Type 0 where
  pub fits : width < 2 ^ 32
  pub rooms : all_within items n ≡ true
  pub buses : widths_fit (skeleton n) ≡ true
  pub words : words_are width (skeleton n) ≡ true
  pub counts : counts_within 4294967294 n ≡ true

-- the path leads from a node to the one of this name
abbrev pub Leads : Name → List ℕ → Node → Type 0
Leads name path n = path_to name (skeleton n) ≡ Some path

-- the node has the child of a turn; a leaf has none
abbrev pub HasChild : BusTurn → Node → Type 0
HasChild t (leaf_node v) = ⊤
HasChild t (dir_node d ns) = NamesOneOf (length (children ns)) t

-- the same where a directory is asked about a bus below it; of a leaf, which has none below, nothing is asked
abbrev pub LeadsBelow : Name → List ℕ → Node → Type 0
LeadsBelow name path (leaf_node v) = path ≡ []
LeadsBelow name path (dir_node d ns) = Leads name path (dir_node d ns)

-- a bus has the child of this number, and that child keeps something of the item
abbrev pub IsChild : ℕ → Node → Type 0
IsChild c (leaf_node v) = ⊤
IsChild c (dir_node d ns) = c < length (children ns)

abbrev pub IsItemOf : ℕ → ℕ → Node → Type 0
IsItemOf c x (leaf_node v) = ⊤
IsItemOf c x (dir_node d ns) = x < node_items (child_at c (children ns))

-- the node keeps something of the item, as each below it does
pub record IsItemIn (x : ℕ) (n : Node) : Type 0 where
  pub items : ℕ
  pub within : all_within items n ≡ true
  pub below : x < items

-- the rules of every bus hold in the node and below it, and the item is one of theirs
pub record IsRuled (x : ℕ) (n : Node) : Type 0 where
  pub items : ℕ
  pub rules : IsTreeOk items n
  pub below : x < items

-- as IsReady, where a bus is asked what it would do, whatever the counts are
pub record IsAskable (width : ℕ) (n : Node) : Type 0 where
  pub fits : width < 2 ^ 32
  pub items : ℕ
  pub rooms : all_within items n ≡ true
  pub buses : widths_fit (skeleton n) ≡ true
