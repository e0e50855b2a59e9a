use Rattle.std.proofs.Common.{◌≡◌, ◌+◌, ◌-◌, ap, sym, ◌∙◌, arith}
use Rattle.explorer.specs.Losing.{flags_after, staying}
use Rattle.explorer.proofs.Lefts.{flags-rest, no-round, one-round}
use Rattle.explorer.proofs.losing.left_after.Goals as goal

pub loop-round-preserved : goal.loop-round-preserved
loop-round-preserved c =
    ap (flags_after (c.args.count - (c.loop-round._round + 1)) c.args.ways.now) (c.in_ok-stay.ensures ∙ ap (staying c.args.ways.now) c.deref.ensures.value)
    ∙ sym (one-round c.args.ways.now c.args.count c.loop-round._round c.loop-round.left.items c.loop-round-test.true) ∙ c.loop-round.invariant

pub returns-then-are_same : goal.returns-then-are_same
returns-then-are_same c =
    let rests : staying c.args.ways.now c.loop-round.left.items ≡ c.loop-round.left.items
    = sym (c.in_ok-stay.ensures ∙ ap (staying c.args.ways.now) c.deref.ensures.value) ∙ sym c.deref-in-loop-round.ensures.value ∙ c.are_same.ensures c.if-are_same.true ∙ c.deref-in-loop-round-2.ensures.value in
    sym (flags-rest c.args.ways.now (c.args.count - c.loop-round._round) c.loop-round.left.items rests) ∙ c.loop-round.invariant

pub returns : goal.returns
returns c = no-round c.args.ways.now c.args.count c.loop-round._round c.loop-round.left.items (omega (arith, c.loop-round-test.false)) ∙ c.loop-round.invariant
