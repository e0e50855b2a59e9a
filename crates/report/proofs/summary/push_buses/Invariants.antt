use Rattle.std.proofs.Common.{take}
use Rattle.report.specs.DdmText.Adds.{Adds}
use Rattle.text_model.specs.Report.{bus_lines}
use Rattle.any_machine.specs.Any.{state_in}
use Rattle.report.proofs.summary.push_buses.Given as goal

abbrev pub invariant-loop-bus : goal.invariant-loop-bus
invariant-loop-bus g l = Adds l.initial.out.items l.out.items (bus_lines (take l.bus (state_in l.machine).machine.traffic))
