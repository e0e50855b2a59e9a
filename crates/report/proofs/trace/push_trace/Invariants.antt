use Rattle.std.proofs.Common.{◌≡◌, ◌++◌, take}
use Rattle.text_model.specs.Trace.{trace_from}
use Rattle.report.proofs.trace.push_trace.Given as goal

abbrev pub invariant-loop-at : goal.invariant-loop-at
invariant-loop-at l = l.text.items ≡ l.initial.text.items ++ trace_from l.first (take l.at l.turns) (take l.at l.answers)
