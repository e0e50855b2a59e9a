use Rattle.std.proofs.Common.{◌≡◌, ◌∙◌, rules, subst}
use Rattle.std.specs.Prelude.{Ok, Err}
use Rattle.litmus_model.specs.Tokens.{Piece}
use Rattle.litmus_text.specs.Reads.{Adds, behind}
use Rattle.litmus_read.specs.Cells.{one_row}
use Rattle.litmus_read.proofs.RowSteps.{rows_fail, rows_next}
use Rattle.litmus_read.proofs.rows.read_rows.Goals as goal

pub returns-in_err-read_row-clause-steps : goal.returns-in_err-read_row-clause-steps
returns-in_err-read_row-clause-steps c =
    let is : c.from_residual.result ≡ Err c.in_err-read_row.field-0.0 = search rules in
    let old = c.loop-row.steps.items in
    let new = c.read_row.new.steps.items in
    rw is
    (rows_fail old new c.args.threads c.args.rows.now c.loop-row.row-index c.row-item.result c.in_err-read_row.field-0.0 c.loop-row-test.true c.loop-row.invariant.0
    (subst (λ (p : Piece). Adds (one_row c.args.threads p) old new (Err c.in_err-read_row.field-0.0)) c.row-item.is c.in_err-read_row.ensures.steps))

pub loop-row-preserved : goal.loop-row-preserved
loop-row-preserved c =
    let old = c.loop-row.steps.items in
    let new = c.read_row.new.steps.items in (
      c.loop-row.invariant.0
          ∙ rows_next old new c.args.threads c.args.rows.now c.loop-row.row-index c.row-item.result c.loop-row-test.true
          (subst (λ (p : Piece). behind old (one_row c.args.threads p) ≡ Ok new) c.row-item.is c.in_ok-read_row.ensures.steps),
      c.in_ok-read_row.ensures.kept c.loop-row.row-index c.loop-row.invariant.1,
    )
