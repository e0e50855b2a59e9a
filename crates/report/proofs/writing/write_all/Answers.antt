use Rattle.std.proofs.Common.{arith}
use Rattle.std.proofs.lemmas.List.{length-drop, take_rest}
use Rattle.report.proofs.Written.{writes_on}
use Rattle.report.proofs.writing.write_all.Goals as goal

pub writing-preserved : goal.writing-preserved
writing-preserved g c =
    let took = rw (take_rest c.args.bytes.now c.writing.at) at c.in_ok-at.ensures.took in
    record {
      within = omega (arith, took.most, length-drop c.writing.at c.args.bytes.now);
      written = writes_on _ _ _ c.args.bytes.now c.writing.at c.in_ok-at.field-0 c.writing.invariant.written took;
      later = omega (arith, c.offer.ensures.cause.later);
    }
