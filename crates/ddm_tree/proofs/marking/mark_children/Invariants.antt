use Rattle.std.proofs.Common.{◌≡◌, drop, map}
use Rattle.ddm_tree.specs.TreeModel.Start.Nodes.{held_below, or_each}
use Rattle.ddm_tree.proofs.marking.mark_children.Given as goal

-- what the children that are left hold comes over what is marked
abbrev pub invariant-loop-child : goal.invariant-loop-child
invariant-loop-child g l = or_each l.held (held_below (map g.C.Agent.value (drop l.child-index l.fn.children))) ≡ or_each l.fn.held (held_below (map g.C.Agent.value l.fn.children))
