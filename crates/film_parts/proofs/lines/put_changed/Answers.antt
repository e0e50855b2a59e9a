use Rattle.std.proofs.Common.{◌<◌, ◌∙◌, drop, length, arith}
use Rattle.film_model.specs.Part.{changed}
use Rattle.film_parts.proofs.PartLines.{at_end, changed_end}
use Rattle.film_parts.proofs.PartsPut.{line_put, put_there}
use Rattle.film_parts.proofs.lines.put_changed.Goals as goal

pub loop-at-preserved : goal.loop-at-preserved
loop-at-preserved c =
    let below : c.loop-at.at < length c.args.parts.now = omega (arith, c.loop-at-test.true) in (
      c.in_ok-put_part.ensures.still ∙ put_there c.args.from c.loop-at.at c.args.still.now c.args.parts.now c.loop-at.still c.requires below c.loop-at.invariant.0,
      line_put c.args.from c.loop-at.at c.args.still.now c.args.parts.now c.loop-at.still c.requires below c.loop-at.invariant.0 c.loop-at.out.items c.args.out.now.items _ c.loop-at.invariant.1 c.in_ok-put_part.ensures.text,
    )

pub returns-clause-text : goal.returns-clause-text
returns-clause-text c =
    at_end c.args.out.now.items c.loop-at.out.items (changed (drop c.loop-at.at (drop c.args.from c.args.still.now)) (drop c.loop-at.at c.args.parts.now)) (changed (drop c.args.from c.args.still.now) c.args.parts.now)
    c.loop-at.invariant.1 (changed_end (drop c.args.from c.args.still.now) c.args.parts.now c.loop-at.at (omega (arith, c.loop-at-test.false)))
