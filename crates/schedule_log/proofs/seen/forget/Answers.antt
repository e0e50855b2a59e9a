use Rattle.std.proofs.Common.{◌<◌, ◌≤◌, length, arith}
use Rattle.std.proofs.lemmas.List.Elements.{All-from_all_within, AllWithin-more_set, AllWithin-upto}
use Rattle.schedule_log.specs.Seen.{IsSeenAt}
use Rattle.schedule_log.proofs.seen.forget.Goals as goal

pub loop-place-preserved : goal.loop-place-preserved
loop-place-preserved c = λ shape.
    let inside : c.loop-place.place < length c.loop-place.places = omega (arith, c.loop-place-test.true, c.loop-place.auto.places, c.loop-place.auto.place-end) in
    AllWithin-more_set c.loop-place.places c.loop-place.place c.nothing.result inside (IsSeenAt shape) (c.loop-place.invariant shape) (c.nothing.ensures shape)

pub returns : goal.returns
returns c = λ shape.
    let all : length c.loop-place.places ≤ c.loop-place.place = omega (arith, c.loop-place-test.false, c.loop-place.auto.places, c.loop-place.auto.place-end) in
    All-from_all_within (IsSeenAt shape) c.loop-place.places (AllWithin-upto (IsSeenAt shape) c.loop-place.places 0 c.loop-place.place (length c.loop-place.places) all (c.loop-place.invariant shape))
