use Rattle.std.proofs.Common.{take}
use Rattle.report.specs.DdmText.Adds.{Adds}
use Rattle.measure_model.specs.Text.{most_line}
use Rattle.measuring.proofs.Listed.{single_lines}
use Rattle.measuring.proofs.text.push_mosts.Given as goal

abbrev pub invariant-loop-bus : goal.invariant-loop-bus
invariant-loop-bus l = Adds l.initial.out.items l.out.items (single_lines most_line 0 (take l.bus l.mosts))
