use Rattle.std.proofs.Common.{◌≡◌}
use Rattle.outcomes.specs.TreeModel.State.Shape.{tree_counts}
use Rattle.outcomes.specs.AnyMachine.Any.{machine_state}
use Rattle.schedule_log.specs.Shapes.{shape_view}
use Rattle.survey_model.specs.Survey.{seed_end}
use Rattle.outcomes.specs.Runs.{IsTwin}
use Rattle.outcomes.proofs.Seeds.{tally}
use Rattle.outcomes.proofs.surveying.survey.Given as goal

abbrev pub invariant-loop-number : goal.invariant-loop-number
invariant-loop-number l = record {
  twin : IsTwin 0 l.fn.start l.machine;
  lines : l.lines.items ≡ tally (seed_end l.fn.kind (shape_view l.fn.shape) l.fn.most (machine_state l.fn.start).machine) l.fn.first l.number;
  recorder : l.runs.recorder ≡ record { shape = shape_view l.fn.shape; harts = (tree_counts (machine_state l.fn.start).machine).leaves };
}
