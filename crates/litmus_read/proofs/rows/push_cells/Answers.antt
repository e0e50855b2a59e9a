use Rattle.std.proofs.Common.{◌≡◌, ◌<◌, length, ◌∙◌, subst, rules, arith}
use Rattle.std.specs.Prelude.{Ok, Err}
use Rattle.litmus_model.specs.Tokens.{Piece}
use Rattle.litmus_text.specs.Reads.{Adds, behind}
use Rattle.litmus_read.specs.Cells.{cell_placed}
use Rattle.litmus_read.proofs.KeptSteps.{kept_row}
use Rattle.litmus_read.proofs.RowSteps.{cells_fail, cells_next}
use Rattle.litmus_read.proofs.rows.push_cells.Goals as goal

pub returns-in_err-read_piece-clause-steps : goal.returns-in_err-read_piece-clause-steps
returns-in_err-read_piece-clause-steps c =
    let is : c.from_residual.result ≡ Err c.in_err-read_piece.field-0.0 = search rules in
    let inside : c.loop-thread.thread < length c.args.cells.now = omega (arith, c.loop-thread-test.true, c.requires) in
    let k = c.loop-thread.thread in
    let line = c.args.line in
    let old = c.loop-thread.steps.items in
    let new = c.read_piece.new.steps.items in
    let e = c.in_err-read_piece.field-0.0 in
    rw is
    (cells_fail c.args.steps.now.items old new new line c.args.cells.now k c.index-cells-thread.result e inside c.loop-thread.invariant.0
    (subst (λ (p : Piece). Adds (cell_placed k line p.tokens) old new (Err e)) c.index-cells-thread.is c.in_err-read_piece.ensures.steps))

pub loop-thread-preserved : goal.loop-thread-preserved
loop-thread-preserved c =
    let inside : c.loop-thread.thread < length c.args.cells.now = omega (arith, c.loop-thread-test.true, c.requires) in
    let k = c.loop-thread.thread in
    let line = c.args.line in
    let old = c.loop-thread.steps.items in
    let new = c.read_piece.new.steps.items in
    let whole =
    c.loop-thread.invariant.0
    ∙ cells_next old new line c.args.cells.now k c.index-cells-thread.result inside
    (subst (λ (p : Piece). behind old (cell_placed k line p.tokens) ≡ Ok new) c.index-cells-thread.is c.in_ok-read_piece.ensures.steps) in
    (whole, λ before kept. c.in_ok-read_piece.ensures.kept before (c.loop-thread.invariant.1 before kept))

pub returns-clause-kept : goal.returns-clause-kept
returns-clause-kept c = λ before kept. kept_row before c.loop-thread.thread c.loop-thread.steps.items (c.loop-thread.invariant.1 before kept)
