use Rattle.std.proofs.Common.{◌≡◌, ◌++◌, drop, map, take}
use Rattle.ddm_tree.proofs.copying.copy_children.Given as goal

abbrev pub invariant-loop-number : goal.invariant-loop-number
invariant-loop-number g l = map g.C.Agent.value l.children ≡ take l.number (map g.C.Agent.value l.fn.others) ++ drop l.number (map g.C.Agent.value l.fn.children)
