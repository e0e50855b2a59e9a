use Rattle.std.proofs.Common.{◌≡◌, ◌∙◌, ap, subst}
use Rattle.std.specs.Prelude.{OnOk}
use Rattle.outcomes.specs.TreeModel.State.Values.{MachineValue}
use Rattle.outcomes.specs.AnyMachine.Any.{machine_state}
use Rattle.outcome_model.specs.Outcome.{outcome_of}
use Rattle.outcome_model.specs.Table.{counted}
use Rattle.recording_model.specs.Recording.{Recording, recording_of}
use Rattle.survey_model.specs.Survey.{run_end, seed_end, worded}
use Rattle.outcomes.proofs.surveying.count_recorded.Goals as goal

pub returns-clause-counted : goal.returns-clause-counted
unfolding run_end
returns-clause-counted c =
    let start : MachineValue = (machine_state c.args.start.now).machine in
    let shape = c.args.runs.now.recorder.shape in
    let r : Recording = recording_of c.args.kind shape c.args.seed c.args.most start in
    let m : MachineValue = (machine_state c.record_seed.new.machine).machine in
    let same : c.deref.result.now ≡ seed_end c.args.kind shape c.args.most start c.args.seed =
    c.deref.ensures.value ∙ c.in_ok-put_end.ensures ∙ ap (λ e. worded e (outcome_of m)) c.in_ok-end.ensures.end ∙ ap (λ (n : MachineValue). worded r.end (outcome_of n)) c.in_ok-end.ensures.after in
    subst (λ o. OnOk c.count_outcome.result (c.count_outcome.new.lines.items ≡ counted c.args.seed o c.args.lines.now.items)) same c.count_outcome.ensures.counted
