use Rattle.std.proofs.Common.{map}
use Rattle.ddm_tree.specs.TreeModel.State.Values.{DirValue, dir_node, nodes}
use Rattle.ddm_tree.specs.Quiet.{AreLearnedBelow, KeepsHarts}
use Rattle.ddm_tree.proofs.QuietTable.{DownsOf}
use Rattle.ddm_tree.proofs.quiet.learn_downs.Given as goal

abbrev pub invariant-loop-child : goal.invariant-loop-child
invariant-loop-child g l = ((d : DirValue) → AreLearnedBelow (DownsOf l.child-index) (dir_node d (nodes (map g.C.Agent.value l.children))) l.fn.known l.known) × KeepsHarts l.fn.known l.known
