use Rattle.std.proofs.Common.{arith}
use Rattle.checkpoint.specs.Resumed.{size_words}
use Rattle.checkpoint.proofs.Heads.{number_fits, number_refused}
use Rattle.checkpoint.proofs.resuming.judge_sizes.Goals as goal

pub returns-in-Err-clause-refused : goal.returns-in-Err-clause-refused
returns-in-Err-clause-refused c =
    number_refused (size_words c.args.sizes) (size_words c.args.sizes) c.loop-number.number-index c.loop-number.at c.args.words.now c.loop-number.invariant.judged c.loop-number-test.true _ c.in-Err.refusal c.in-Err.ensures.refused

pub loop-number-preserved : goal.loop-number-preserved
loop-number-preserved c = record {
  place = omega (arith, c.loop-number.invariant.place);
  judged = number_fits (size_words c.args.sizes) (size_words c.args.sizes) c.loop-number.number-index c.loop-number.at c.args.words.now c.loop-number.invariant.judged c.loop-number-test.true _ c.in-Ok.ensures.ok;
}
