use Rattle.std.proofs.Common.{ap, ◌∙◌}
use Rattle.any_runs.specs.TreeModel.Turns.Machine.{run_of}
use Rattle.any_runs.proofs.RunMore.{made-order}
use Rattle.any_runs.proofs.running.run_reserved.Goals as goal

pub returns-clause-order : goal.returns-clause-order
returns-clause-order g c =
    made-order c.args.turns.now _ _
    (ap (λ s. s.machine) c.run_turns.ensures.after ∙ ap (λ s. (run_of c.args.turns.now s.machine).machine) c.in_ok-reserve-2.ensures)
    c.counts.ensures.shape c.counts.ensures.rules
