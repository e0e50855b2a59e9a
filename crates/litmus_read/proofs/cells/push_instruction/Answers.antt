use Rattle.std.proofs.Common.{◌≡◌, sym, subst, rules}
use Rattle.std.specs.Prelude.{Err}
use Rattle.litmus_model.specs.declared.parts.Part.{Part}
use Rattle.litmus_model.specs.Program.{steps_behind_labels}
use Rattle.litmus_text.specs.Reads.{Adds}
use Rattle.litmus_read.specs.Cells.{placed_steps}
use Rattle.litmus_read.proofs.CellSteps.{made_fails}
use Rattle.litmus_read.proofs.KeptSteps.{kept_made}
use Rattle.litmus_read.proofs.cells.push_instruction.Goals as goal

pub returns-in_err-made-in-Word-clause-steps : goal.returns-in_err-made-in-Word-clause-steps
returns-in_err-made-in-Word-clause-steps c =
    let is : c.from_residual.result ≡ Err c.in_err-made-in-Word.field-0.0 = search rules in
    let thread = c.args.cell.thread in
    let line = c.args.cell.line in
    let old = c.args.steps.now.items in
    let operands = c.args.operands.now in
    rw is
    (subst (λ (p : Part). Adds (placed_steps thread line (steps_behind_labels line p operands)) old old (Err c.in_err-made-in-Word.field-0.0))
    (sym c.in-Word.is) (made_fails old old thread line c.in-Word.mnemonic operands c.in_err-made-in-Word.field-0.0 c.in_err-made-in-Word.ensures.steps))

pub returns-in_ok-push_made-in-Word-clause-kept : goal.returns-in_ok-push_made-in-Word-clause-kept
returns-in_ok-push_made-in-Word-clause-kept c = λ before kept.
    rw c.in_ok-push_made-in-Word.ensures
    (kept_made before c.args.cell.thread c.args.cell.line c.in_ok-made-in-Word.made c.args.steps.now.items c.in_ok-made-in-Word.ensures.made kept)
