use Rattle.std.proofs.Common.{◌≡◌, map}
use Rattle.ddm_tree.specs.TreeModel.State.Values.{dir_node, nodes}
use Rattle.ddm_tree.specs.Quiet.{IsQuietOf, busy_at}
use Rattle.ddm_tree.proofs.quiet.put_bus.Given as goal

abbrev pub invariant-loop-c : goal.invariant-loop-c
invariant-loop-c g l = IsQuietOf l.quiet (dir_node (g.P.Parent.state l.parent) (nodes (map g.C.Agent.value l.children))) × (busy_at 0 0 l.quiet ≡ busy_at 0 0 l.initial.quiet)
