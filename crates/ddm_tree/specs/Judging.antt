-- A bus judged by its rules, item by item: the least item that breaks one of them.
-- Letters: p is the directory over a bus and ns its children, x an item.
-- To be believed with the contracts: it is what a read state is judged by.
use Rattle.std.specs.Prelude.{◌≡◌, ℕ, Bool, true, not, ◌&&◌, ◌||◌, nat_eq, List, find, Option, Some, None, if◌then◌else◌}
use Rattle.std.specs.List.{range_with_len}
use Rattle.ddm_tree.specs.TreeModel.State.Values.{DirValue, Node, leaf_node, dir_node, children}
use Rattle.ddm_tree.specs.TreeModel.State.Directory.{is_top}
use Rattle.ddm_tree.specs.TreeModel.State.Rooms.{all_within}
use Rattle.ddm_tree.specs.TreeModel.State.Shape.{skeleton, widths_fit}
use Rattle.ddm_tree.specs.TreeRules.Bus.Faces.{parent_face, faces_of}
use Rattle.ddm_tree.specs.TreeRules.Bus.Item.{bits_of, top_holds}
use Rattle.ddm_tree.specs.TreeRules.Bus.Rules.{kept_places}
use Rattle.state_judging.specs.Judged.{item_kept_at}

-- the item keeps the rules of the bus, and over the top's bus, where the level is 0, that of the top
unfoldable pub keeps_rules : DirValue → List Node → ℕ → Bool
keeps_rules p ns x = item_kept_at p ns x && (not (is_top p) || top_holds (parent_face x p) (bits_of (parent_face x p) (faces_of x ns)))

-- as many places are reserved as are kept for so many items
unfoldable pub keeps_places : ℕ → DirValue → Bool
keeps_places items p = nat_eq p.reserved (kept_places p (range_with_len 0 items))

-- where they aren't, the bus is broken at item 0
abbrev pub first_broken : ℕ → DirValue → List Node → Option ℕ
first_broken items p ns = if keeps_places items p then find (λ x. not (keeps_rules p ns x)) (range_with_len 0 items) else Some 0

abbrev pub node_broken : ℕ → Node → Option ℕ
node_broken items (leaf_node v) = None
node_broken items (dir_node d ns) = first_broken items d (children ns)

-- each node keeps something of so many items, and each bus has 1 to 16 children
pub record IsJudged (items : ℕ) (n : Node) : Type 0 where
  pub rooms : all_within items n ≡ true
  pub buses : widths_fit (skeleton n) ≡ true
