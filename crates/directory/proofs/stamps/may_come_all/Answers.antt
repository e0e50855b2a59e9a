use Rattle.std.proofs.Common.{◌-◌, ◌<◌, length, sym, ap, ◌∙◌, arith}
use Rattle.std.specs.Prelude.{option_copied}
use Rattle.directory.proofs.StampOrder.{come-ends, come-goes_on, not-there}
use Rattle.directory.proofs.stamps.may_come_all.Goals as goal

pub returns-then-not-may_come : goal.returns-then-not-may_come
returns-then-not-may_come g c =
    let view = c.entry.view_is in
    come-ends (c.args.numbers - 1) c.args.taken.now c.args.present.now c.loop-place.last c.args.down.now.list c.loop-place.place c.in-Some.entry.now (sym c.in-Some.ensures) _ _ (ap (λ e. e.kind) view) (ap (λ e. e.stamp) view) _ c.loop-place.invariant (sym c.may_come.ensures ∙ c.if-not-may_come.true)

pub unreachable-requires : goal.unreachable-requires
unreachable-requires g c =
    let inside : c.loop-place.place < length c.args.down.now.list = omega (arith, c.len-place-end.ensures, c.loop-place-test.true) in
    not-there c.args.down.now.list c.loop-place.place inside (sym c.get.ensures ∙ ap option_copied c.in-None.is)

pub loop-place-preserved : goal.loop-place-preserved
loop-place-preserved g c =
    let view = c.entry.view_is in
    come-goes_on (c.args.numbers - 1) c.args.taken.now c.args.present.now c.loop-place.last c.args.down.now.list c.loop-place.place c.in-Some.entry.now (sym c.in-Some.ensures) _ _ (ap (λ e. e.kind) view) (ap (λ e. e.stamp) view) _ c.loop-place.invariant (sym c.may_come.ensures ∙ c.if-not-may_come.false)
