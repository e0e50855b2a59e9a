use Rattle.std.proofs.Common.{◌≡◌, ◌∙◌, subst, List, rules}
use Rattle.std.specs.Prelude.{Ok, Err}
use Rattle.litmus_model.specs.declared.parts.PlacedStep.{PlacedStep}
use Rattle.litmus_model.specs.Program.{steps_of, thread_labels}
use Rattle.litmus_text.specs.declared.judged.Unread.TheVariants.{Refused}
use Rattle.litmus_read.proofs.LabelSearch.{threads_next, threads_refused}
use Rattle.litmus_read.proofs.labels.judge_labels.Goals as goal

pub returns-in_err-judge_thread : goal.returns-in_err-judge_thread
returns-in_err-judge_thread c =
    let is : c.from_residual-in_err-judge_thread.result ≡ Err (Refused c.in_err-judge_thread.field-0.0) = search rules in
    let own : c.deref.result.now ≡ steps_of c.loop-thread.thread c.args.program.now = c.deref.ensures.value ∙ c.in_ok-steps.ensures in
    rw is
    (c.loop-thread.invariant
    ∙ threads_refused c.loop-thread.thread c.args.threads c.args.program.now c.in_err-judge_thread.field-0.0 c.loop-thread-test.true
    (subst (λ (ss : List PlacedStep). thread_labels ss ≡ Err c.in_err-judge_thread.field-0.0) own c.in_err-judge_thread.ensures))

pub loop-thread-preserved : goal.loop-thread-preserved
loop-thread-preserved c =
    let own : c.deref.result.now ≡ steps_of c.loop-thread.thread c.args.program.now = c.deref.ensures.value ∙ c.in_ok-steps.ensures in
    c.loop-thread.invariant
    ∙ threads_next c.loop-thread.thread c.args.threads c.args.program.now c.loop-thread-test.true
    (subst (λ (ss : List PlacedStep). thread_labels ss ≡ Ok 0) own c.in_ok-judge_thread.ensures)
