use Rattle.std.proofs.Common.{◌≡◌, ◌∙◌, sym, subst, List, drop, take, rules}
use Rattle.std.specs.Prelude.{Ok, Err}
use Rattle.std.specs.List.{range_with_len}
use Rattle.litmus_model.specs.declared.parts.PlacedStep.{PlacedStep}
use Rattle.litmus_model.specs.Tokens.{Piece}
use Rattle.litmus_model.specs.Program.{program_labels, rows_steps, whole_rows}
use Rattle.litmus_text.specs.declared.judged.Unread.TheVariants.{Refused}
use Rattle.litmus_text.specs.Reads.{Reads, ReadsList}
use Rattle.litmus_read.proofs.Programs.{labels_bad, many_bad, program_good, rows_bad, steps_bad, threads_bad}
use Rattle.litmus_read.proofs.program.read_program.Goals as goal

pub returns-in_err-count-clause-program : goal.returns-in_err-count-clause-program
returns-in_err-count-clause-program c =
    let is : c.from_residual-in_err-count.result ≡ Err (Refused c.in_err-count.field-0.0) = search rules in
    rw is
    (rows_bad c.args.line c.args.tokens.now c.deref.result.now c.in_err-count.field-0.0 (c.deref.ensures.value ∙ c.in_ok-pieces.ensures) c.in_err-count.ensures.rows)

pub returns-in_err-threads-clause-program : goal.returns-in_err-threads-clause-program
returns-in_err-threads-clause-program c =
    let is : c.from_residual-in_err-threads.result ≡ Err c.in_err-threads.field-0.0 = search rules in
    let pieces = c.deref-2.result.now in
    let same : c.deref.result.now ≡ c.deref-2.result.now = c.deref.ensures.value ∙ sym c.deref-2.ensures.value in
    let whole = subst (λ (ps : List Piece). whole_rows ps ≡ Ok (take c.in_ok-count.count ps)) same c.in_ok-count.ensures.rows in
    rw is
    (threads_bad c.args.line c.args.tokens.now pieces (take c.in_ok-count.count pieces) c.in_err-threads.field-0.0 (c.deref-2.ensures.value ∙ c.in_ok-pieces.ensures) whole c.in_err-threads.ensures)

pub returns-in_err-not_too_many-clause-program : goal.returns-in_err-not_too_many-clause-program
returns-in_err-not_too_many-clause-program c =
    let is : c.from_residual-in_err-not_too_many.result ≡ Err (Refused c.in_err-not_too_many.field-0.0) = search rules in
    let pieces = c.deref-2.result.now in
    let same : c.deref.result.now ≡ c.deref-2.result.now = c.deref.ensures.value ∙ sym c.deref-2.ensures.value in
    let whole = subst (λ (ps : List Piece). whole_rows ps ≡ Ok (take c.in_ok-count.count ps)) same c.in_ok-count.ensures.rows in
    rw is
    (many_bad c.args.line c.args.tokens.now pieces (take c.in_ok-count.count pieces) c.in_ok-threads.threads c.in_err-not_too_many.field-0.0 (c.deref-2.ensures.value ∙ c.in_ok-pieces.ensures) whole
    c.in_ok-threads.ensures c.in_err-not_too_many.ensures.rows)

pub returns-in_err-steps-clause-program : goal.returns-in_err-steps-clause-program
returns-in_err-steps-clause-program c =
    let is : c.from_residual-in_err-steps.result ≡ Err c.in_err-steps.field-0.0 = search rules in
    let pieces = c.deref-2.result.now in
    let rows = take c.in_ok-count.count pieces in
    let same : c.deref.result.now ≡ c.deref-2.result.now = c.deref.ensures.value ∙ sym c.deref-2.ensures.value in
    let whole = subst (λ (ps : List Piece). whole_rows ps ≡ Ok (take c.in_ok-count.count ps)) same c.in_ok-count.ensures.rows in
    let bad = subst (λ (ps : List Piece). ReadsList (rows_steps c.in_ok-threads.threads ps) (Err c.in_err-steps.field-0.0)) c.behind_first.ensures c.in_err-steps.ensures.steps in
    rw is
    (steps_bad c.args.line c.args.tokens.now pieces rows (drop 1 rows) c.in_ok-threads.threads c.in_err-steps.field-0.0 (c.deref-2.ensures.value ∙ c.in_ok-pieces.ensures) whole c.in_ok-threads.ensures
    c.in_ok-not_too_many.ensures.rows bad)

pub returns-in_err-judge_labels-clause-program : goal.returns-in_err-judge_labels-clause-program
returns-in_err-judge_labels-clause-program c =
    let is : c.from_residual-in_err-judge_labels.result ≡ Err c.in_err-judge_labels.field-0.0 = search rules in
    let pieces = c.deref-2.result.now in
    let rows = take c.in_ok-count.count pieces in
    let threads = c.in_ok-threads.threads in
    let steps = c.in_ok-steps.steps.items in
    let e = c.in_err-judge_labels.field-0.0 in
    let same : c.deref.result.now ≡ c.deref-2.result.now = c.deref.ensures.value ∙ sym c.deref-2.ensures.value in
    let whole = subst (λ (ps : List Piece). whole_rows ps ≡ Ok (take c.in_ok-count.count ps)) same c.in_ok-count.ensures.rows in
    let made = subst (λ (ps : List Piece). rows_steps c.in_ok-threads.threads ps ≡ Ok c.in_ok-steps.steps.items) c.behind_first.ensures c.in_ok-steps.ensures.steps in
    let bad = subst (λ (ss : List PlacedStep). Reads (λ (done : Unit {0}). ss) (program_labels (range_with_len 0 threads) ss) (Err e)) c.deref-3.ensures.value c.in_err-judge_labels.ensures in
    rw is
    (labels_bad c.args.line c.args.tokens.now pieces rows (drop 1 rows) threads steps e (c.deref-2.ensures.value ∙ c.in_ok-pieces.ensures) whole c.in_ok-threads.ensures
    c.in_ok-not_too_many.ensures.rows made bad)

pub returns-clause-program : goal.returns-clause-program
returns-clause-program c =
    let pieces = c.deref-2.result.now in
    let rows = take c.in_ok-count.count pieces in
    let threads = c.in_ok-threads.threads in
    let same : c.deref.result.now ≡ c.deref-2.result.now = c.deref.ensures.value ∙ sym c.deref-2.ensures.value in
    let whole = subst (λ (ps : List Piece). whole_rows ps ≡ Ok (take c.in_ok-count.count ps)) same c.in_ok-count.ensures.rows in
    let made = subst (λ (ps : List Piece). rows_steps c.in_ok-threads.threads ps ≡ Ok c.in_ok-steps.steps.items) c.behind_first.ensures c.in_ok-steps.ensures.steps in
    let judged = subst (λ (ss : List PlacedStep). program_labels (range_with_len 0 threads) ss ≡ Ok ss) c.deref-3.ensures.value c.in_ok-judge_labels.ensures in
    program_good c.args.line c.args.tokens.now pieces rows (drop 1 rows) threads c.in_ok-steps.steps.items (c.deref-2.ensures.value ∙ c.in_ok-pieces.ensures) whole c.in_ok-threads.ensures
    c.in_ok-not_too_many.ensures.rows made judged
