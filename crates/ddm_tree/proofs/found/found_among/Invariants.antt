use Rattle.std.proofs.Common.{◌≡◌, drop, map}
use Rattle.ddm_tree.proofs.FoundCopy.{copy_among}
use Rattle.ddm_tree.proofs.found.found_among.Given as goal

abbrev pub invariant-loop-child : goal.invariant-loop-child
invariant-loop-child g l = copy_among l.fn.item (map g.C.Agent.value l.fn.children) ≡ copy_among l.fn.item (map g.C.Agent.value (drop l.child-index l.fn.children))
