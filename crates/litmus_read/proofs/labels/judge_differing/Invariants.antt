use Rattle.std.proofs.Common.{◌≡◌, [], drop, take}
use Rattle.litmus_model.specs.Program.{labels_differ}
use Rattle.litmus_read.proofs.labels.judge_differing.Given as goal

abbrev pub invariant-loop-at : goal.invariant-loop-at
invariant-loop-at l = labels_differ [] l.steps ≡ labels_differ (take l.at l.steps) (drop l.at l.steps)
