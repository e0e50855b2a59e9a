use Rattle.std.proofs.Common.{◌≡◌}
use Rattle.outcomes.specs.AnyMachine.Any.{machine_state}
use Rattle.schedule_log.specs.Shapes.{shape_view}
use Rattle.outcome_model.specs.Outcome.{seed_outcome}
use Rattle.outcomes.specs.Runs.{IsTwin}
use Rattle.outcomes.proofs.Seeds.{tally}
use Rattle.outcomes.proofs.runs.outcomes.Given as goal

abbrev pub invariant-loop-number : goal.invariant-loop-number
invariant-loop-number l = record {
  twin : IsTwin l.fn.turns l.fn.start l.machine;
  lines : l.lines.items ≡ tally (seed_outcome (shape_view l.fn.shape) l.fn.turns (machine_state l.fn.start).machine) l.fn.first l.number;
  shape : l.seeds.shape ≡ shape_view l.fn.shape;
}
