use Rattle.std.proofs.Common.{◌∙◌, ap}
use Rattle.outcomes.specs.TreeModel.Turns.Machine.{run_of}
use Rattle.outcomes.specs.TextModel.Seeded.{seeded_turns}
use Rattle.schedule_log.specs.Seeding.{SeededView}
use Rattle.outcomes.specs.AnyMachine.Any.{machine_state}
use Rattle.outcome_model.specs.Outcome.{outcome_of, seed_outcome}
use Rattle.outcomes.proofs.runs.run_seed.Goals as goal

pub returns-clause-outcome : goal.returns-clause-outcome
unfolding seed_outcome
returns-clause-outcome c =
    let turns = seeded_turns c.args.seeds.now.shape c.args.seed c.args.turns in
    c.run_until_halted.ensures.outcome
    ∙ ap (λ (v : SeededView). outcome_of (run_of v.left (machine_state c.copy_from.new.machine).machine).machine) c.begin.ensures.turns
    ∙ ap (λ s. outcome_of (run_of turns s.machine).machine) c.copy_from.ensures.after
