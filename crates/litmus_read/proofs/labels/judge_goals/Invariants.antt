use Rattle.std.proofs.Common.{◌≡◌, drop}
use Rattle.litmus_model.specs.Program.{goals_are_there, labels_of}
use Rattle.litmus_read.proofs.labels.judge_goals.Given as goal

abbrev pub invariant-loop-step : goal.invariant-loop-step
invariant-loop-step l = goals_are_there (labels_of l.steps) l.steps ≡ goals_are_there (labels_of l.steps) (drop l.step-index l.steps)
