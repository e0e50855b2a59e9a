use Rattle.ddm_tree.proofs.LeavesInOrder.{LeavesSoFar}
use Rattle.ddm_tree.proofs.parts.Parts.read_leaves.Given as goal

-- the leaves so far, and those that are left
abbrev pub invariant-loop-leaf : goal.invariant-loop-leaf
invariant-loop-leaf g l = LeavesSoFar l.harts l.words l.fn.from l.fn.self l.parts l.leaf l.at
