use Rattle.std.proofs.Common.{◌≡◌, ◌∙◌, None, refl, sym}
use Rattle.text_model.specs.Schedule.{turn_fault}
use Rattle.schedule_log.proofs.SeenLines.{new-step, none-is, seen-anew}
use Rattle.schedule_log.proofs.steps.new_step.Goals as goal

pub remember-requires : goal.remember-requires
remember-requires c =
    let turn = c.in-Some.turn in
    let known : turn_fault c.args.seen.now turn ≡ None = none-is (turn_fault c.args.seen.now turn) (rw c.parts-then-tells.ensures at (sym c.has_named.ensures ∙ c.if-has_named.true)) in
    seen-anew c.args.seen.now c.args.text.now c.args.front.now turn c.in-Some.rest.now _ c.requires.front c.in-Some.ensures refl (c.tells.ensures.used c.if-tells.true) (c.tells.ensures.few c.if-tells.true) known

pub returns-then-has_named-clause-step : goal.returns-then-has_named-clause-step
returns-then-has_named-clause-step c = new-step c.args.seen.now _ c.args.lines c.args.made c.args.text.now c.in-Some.turn c.in-Some.rest.now _ c.parts-2.ensures c.in-Some.ensures c.step_of_turn-step.ensures

pub returns-else-tells-clause-step : goal.returns-else-tells-clause-step
returns-else-tells-clause-step c = new-step c.args.seen.now _ c.args.lines c.args.made c.args.text.now c.in-Some.turn c.in-Some.rest.now _ c.parts-2.ensures c.in-Some.ensures c.step_of_turn-step.ensures
