use Rattle.std.proofs.Common.{take}
use Rattle.report.specs.DdmText.Adds.{Adds}
use Rattle.recording.specs.AnyMachine.Any.{state_in}
use Rattle.measure_model.specs.Text.{bus_counts_line}
use Rattle.measuring.proofs.Listed.{pair_lines}
use Rattle.measuring.proofs.text.push_buses.Given as goal

abbrev pub invariant-loop-bus : goal.invariant-loop-bus
invariant-loop-bus g l = Adds l.initial.out.items l.out.items (pair_lines bus_counts_line 0 (take l.bus (state_in l.machine).machine.traffic) (take l.bus l.busy))
