use Rattle.std.proofs.Common.{ℕ, ◌+◌, List, refl, sym, ap, ◌∙◌, subst}
use Rattle.text_model.specs.Schedule.{end_with}
use Rattle.schedule_log.specs.Steps.{StepGives}
use Rattle.schedule_log.proofs.Cuts.{tail_is}
use Rattle.schedule_log.proofs.FirstLines.{turn_step, no_turn_step, end_step}
use Rattle.schedule_log.proofs.steps.step_of_line.Goals as goal

pub returns-then-eq : goal.returns-then-eq
returns-then-eq c =
    end_step c.args.parts.now c.args.lines c.args.made c.args.text.now c.args.end c.after_end.result c.requires.line (sym c.eq.ensures ∙ c.if-eq.true)
    (c.after_end.ensures ∙ ap (λ (more : List ℕ). end_with (c.args.lines + 1 + 1) more) (tail_is c.args.text.now (c.args.end + 1)))

pub returns-in-None : goal.returns-in-None
returns-in-None c =
    no_turn_step c.args.parts.now c.args.lines c.args.made c.args.text.now c.args.end c.requires.line (sym c.eq.ensures ∙ c.if-eq.false) (sym c.turn_of_line.ensures ∙ c.in-None.is)

pub returns-in-Some : goal.returns-in-Some
returns-in-Some c =
    subst (λ step. StepGives c.args.parts.now c.args.lines c.args.made c.args.text.now step) (sym c.step_of_turn.ensures)
    (turn_step c.args.parts.now c.args.lines c.args.made c.args.text.now c.args.end c.in-Some.turn _ c.requires.line (sym c.eq.ensures ∙ c.if-eq.false) (sym c.turn_of_line.ensures ∙ c.in-Some.is) refl)
