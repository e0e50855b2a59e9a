-- The stamps that a directory keeps, where a node is known to be one.
-- Letters: n is a node, d a directory over the nodes ns.
-- To be believed with the contracts: it is what the calls that judge stamps give.
use Rattle.std.specs.Prelude.{Bool, true}
use Rattle.ddm_tree.specs.DdmTypes.declared.keys.Stamp.{Stamp}
use Rattle.ddm_tree.specs.TreeModel.State.Values.{Node, leaf_node, dir_node}
use Rattle.ddm_tree.specs.DirectoryCrate.Stamps.{stamps_fit}

-- they are in order, where the bus above has this present stamp; a leaf keeps none
abbrev pub node_stamps_fit : Stamp → Node → Bool
node_stamps_fit present (leaf_node v) = true
node_stamps_fit present (dir_node d ns) = stamps_fit present d
