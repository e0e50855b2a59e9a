use Rattle.std.proofs.Common.{take}
use Rattle.report.specs.DdmText.Adds.{Adds}
use Rattle.recording.specs.AnyMachine.Any.{state_in}
use Rattle.measure_model.specs.Text.{item_counts_line}
use Rattle.measuring.proofs.Listed.{pair_lines}
use Rattle.measuring.proofs.text.push_items.Given as goal

abbrev pub invariant-loop-item : goal.invariant-loop-item
invariant-loop-item g l = Adds l.initial.out.items l.out.items (pair_lines item_counts_line 0 (take l.item (state_in l.machine).machine.items.rows) (take l.item l.items))
