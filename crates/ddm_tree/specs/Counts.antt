-- What a machine counts: the instructions of each hart and the grants on each bus, none above a bound.
-- Letters: n is a node, v a leaf, d a directory over the nodes ns.
-- To be believed with the contracts: it says when a machine may make another turn.
use Rattle.std.specs.Prelude.{ℕ, Bool, true, ◌&&◌, nat_le}
use Rattle.ddm_tree.specs.TreeModel.State.Values.{Node, Nodes, leaf_node, dir_node, no_nodes, more_nodes}

abbrev mutual
  pub counts_within : ℕ → Node → Bool
  counts_within most (leaf_node v) = nat_le v.done most
  counts_within most (dir_node d ns) = nat_le d.count most && counts_among most ns

  pub counts_among : ℕ → Nodes → Bool
  counts_among most no_nodes = true
  counts_among most (more_nodes n ns) = counts_within most n && counts_among most ns
