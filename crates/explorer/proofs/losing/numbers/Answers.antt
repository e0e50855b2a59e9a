use Rattle.explorer.proofs.Lefts.{numbered-more}
use Rattle.explorer.proofs.losing.numbers.Goals as goal

pub loop-number-preserved : goal.loop-number-preserved
loop-number-preserved c = numbered-more c.args.left.now c.loop-number.number _ _ _ c.loop-number-test.true c.loop-number.invariant c.in_ok-push_if.ensures
