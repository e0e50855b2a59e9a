use Rattle.std.proofs.Common.{◌<◌, drop, length, refl, arith}
use Rattle.film_model.specs.Part.{changed}
use Rattle.film_parts.proofs.PartLines.{with_line, at_end, changed_next, changed_end}
use Rattle.film_parts.proofs.lines.push_changed.Goals as goal

pub loop-place-init : goal.loop-place-init
loop-place-init c = refl

pub loop-place-preserved : goal.loop-place-preserved
loop-place-preserved c =
    let before : c.loop-place.place < length c.args.before.now = omega (arith, c.loop-place-test.true, c.min-count.ensures) in
    let inside : c.loop-place.place < length c.args.after.now = omega (arith, c.loop-place-test.true, c.min-count.ensures) in
    with_line c.args.out.now.items c.loop-place.out.items _ _ (changed (drop c.loop-place.place c.args.before.now) (drop c.loop-place.place c.args.after.now)) _ (changed c.args.before.now c.args.after.now) c.loop-place.invariant (changed_next c.args.before.now c.args.after.now c.loop-place.place before inside) c.in_ok-push_if_changed.ensures

pub returns : goal.returns
returns c = at_end c.args.out.now.items c.loop-place.out.items (changed (drop c.loop-place.place c.args.before.now) (drop c.loop-place.place c.args.after.now)) (changed c.args.before.now c.args.after.now) c.loop-place.invariant (changed_end c.args.before.now c.args.after.now c.loop-place.place (omega (arith, c.loop-place-test.false, c.min-count.ensures)))
