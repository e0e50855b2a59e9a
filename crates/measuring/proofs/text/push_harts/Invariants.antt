use Rattle.std.proofs.Common.{take}
use Rattle.report.specs.DdmText.Adds.{Adds}
use Rattle.recording.specs.AnyMachine.Any.{state_in}
use Rattle.recording_model.specs.TreeModel.Turns.Machine.{machine_leaves}
use Rattle.measure_model.specs.Text.{hart_counts_line}
use Rattle.measuring.proofs.Listed.{pair_lines}
use Rattle.measuring.proofs.text.push_harts.Given as goal

abbrev pub invariant-loop-leaf : goal.invariant-loop-leaf
invariant-loop-leaf g l = Adds l.initial.out.items l.out.items (pair_lines (λ n v c. hart_counts_line v c) 0 (take l.leaf (machine_leaves (state_in l.machine).machine)) (take l.leaf l.harts))
