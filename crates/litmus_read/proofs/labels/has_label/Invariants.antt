use Rattle.std.proofs.Common.{◌≡◌, drop}
use Rattle.std.specs.Prelude.{bytes_eq}
use Rattle.std.specs.List.{list_any}
use Rattle.litmus_model.specs.Program.{labels_of}
use Rattle.litmus_read.proofs.labels.has_label.Given as goal

abbrev pub invariant-loop-step : goal.invariant-loop-step
invariant-loop-step l = list_any (bytes_eq l.name) (labels_of l.steps) ≡ list_any (bytes_eq l.name) (labels_of (drop l.step-index l.steps))
