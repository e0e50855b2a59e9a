use Rattle.std.proofs.Common.{take}
use Rattle.std.specs.List.{flat_map}
use Rattle.report.specs.DdmText.Adds.{Adds}
use Rattle.text_model.specs.Report.{hart_line_of}
use Rattle.any_machine.specs.Any.{state_in}
use Rattle.report.specs.MachineView.{harts_of}
use Rattle.report.proofs.summary.push_hart_states.Given as goal

abbrev pub invariant-loop-leaf : goal.invariant-loop-leaf
invariant-loop-leaf g l = Adds l.initial.out.items l.out.items (flat_map hart_line_of (take l.leaf (harts_of (state_in l.machine).machine)))
