use Rattle.std.proofs.Common.{◌<◌, drop, length, refl, arith}
use Rattle.film_model.specs.Part.{valued}
use Rattle.film_parts.proofs.PartLines.{with_line, at_end, valued_next, valued_end}
use Rattle.film_parts.proofs.lines.push_valued.Goals as goal

pub loop-place-init : goal.loop-place-init
loop-place-init c = refl

pub loop-place-preserved : goal.loop-place-preserved
loop-place-preserved c =
    let inside : c.loop-place.place < length c.args.still.now = omega (arith, c.loop-place-test.true) in
    with_line c.args.out.now.items c.loop-place.out.items _ _ (valued (drop c.loop-place.place c.args.still.now)) _ (valued c.args.still.now) c.loop-place.invariant (valued_next c.args.still.now c.loop-place.place inside) c.in_ok-push_if_valued.ensures

pub returns : goal.returns
returns c = at_end c.args.out.now.items c.loop-place.out.items (valued (drop c.loop-place.place c.args.still.now)) (valued c.args.still.now) c.loop-place.invariant (valued_end c.args.still.now c.loop-place.place (omega (arith, c.loop-place-test.false)))
