use Rattle.std.proofs.Common.{◌≡◌, map}
use Rattle.cluster.specs.TreeModel.State.Values.{dir_node, leaf_node, nodes}
use Rattle.cluster.proofs.cluster.clusters.Given as goal

abbrev pub invariant-loop-dir : goal.invariant-loop-dir
invariant-loop-dir g l = map (λ c. dir_node c.dir.state (nodes (map leaf_node c.dir.children.items))) l.clusters.items ≡ map (λ d. dir_node d.state (nodes (map leaf_node d.children.items))) l.yielded
