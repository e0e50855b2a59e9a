-- Which items a node holds before the run.
-- Letters: n is a node, x an item.
-- To be believed with the contracts: it says over which children a directory can be put.
use Rattle.std.specs.Prelude.{◌≡◌, ℕ, ◌<◌, false, length, slice_index_or}
use Rattle.ddm_tree.specs.TreeModel.State.States.{is_exclusive}
use Rattle.ddm_tree.specs.TreeModel.State.Values.{Node}
use Rattle.ddm_tree.specs.TreeModel.State.Child.{child_hold}
use Rattle.ddm_tree.specs.TreeModel.Start.Nodes.{held_by}

-- of so many items the node holds, Exclusive, those that the tables count among its own
pub record IsHolder (items : ℕ) (n : Node) : Type 0 where
  pub count : length (held_by n) ≡ items
  pub holds : (x : ℕ) → x < items → is_exclusive (child_hold x n) ≡ slice_index_or (held_by n) x false
