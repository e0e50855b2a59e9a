use Rattle.std.proofs.Common.{◌≡◌, ◌++◌, [], ap, sym, ◌∙◌}
use Rattle.explorer.proofs.Lefts.{looked-on, none-looked}
use Rattle.explorer.proofs.losing.staying.Goals as goal

pub loop-way-init : goal.loop-way-init
loop-way-init c = c.in_ok-extend_from_slice.ensures.items ∙ ap (λ l. l ++ c.args.left.now) c.in_ok-stay.ensures.items ∙ sym (none-looked c.args.left.now)

pub loop-way-preserved : goal.loop-way-preserved
loop-way-preserved c = looked-on c.args.ways.now c.args.left.now _ _ c.loop-way.way-index _ c.loop-way-test.true c.loop-way.invariant c.look_at.ensures
