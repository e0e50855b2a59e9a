-- The top and the nodes under bus 0 before the first turn.
-- Letters: t is a tree, i an image.
-- To be believed with the contracts: they speak of it.
use Rattle.std.specs.Prelude.{List, drop, map}
use Rattle.start_parts.specs.DdmTypes.ItemTable.{item_count}
use Rattle.start_parts.specs.TreeModel.State.Values.{DirValue, Node, leaf_node}
use Rattle.start_parts.specs.TreeModel.Start.Sources.{TreeValue, ImageValue, width_of}
use Rattle.start_parts.specs.TreeModel.Start.Memory.{start_items}
use Rattle.start_parts.specs.TreeModel.Start.Nodes.{dir_sizes, top_sizes, new_top, under_levels}
use Rattle.start_parts.specs.TreeModel.Start.Machine.{start_leaves}

abbrev pub start_top : TreeValue → ImageValue → DirValue
start_top t i = new_top (top_sizes t.sizes.down (width_of t)) (item_count (start_items t i))

abbrev pub start_kids : TreeValue → ImageValue → List Node
start_kids t i = under_levels (dir_sizes t.sizes (width_of t)) 1 1 (drop 1 t.levels) (map leaf_node (start_leaves t i))
