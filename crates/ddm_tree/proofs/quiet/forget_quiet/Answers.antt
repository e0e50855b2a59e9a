use Rattle.std.proofs.Common.{arith}
use Rattle.ddm_tree.proofs.QuietTable.{blank-all}
use Rattle.ddm_tree.proofs.quiet.forget_quiet.Goals as goal

pub returns : goal.returns
returns c = blank-all c.loop-place.known (λ i inside. c.loop-place.invariant i (omega (arith, inside, c.loop-place-test.false)))
