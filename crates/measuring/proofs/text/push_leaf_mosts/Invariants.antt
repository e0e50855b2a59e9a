use Rattle.std.proofs.Common.{take}
use Rattle.report.specs.DdmText.Adds.{Adds}
use Rattle.measure_model.specs.Text.{leaf_most_line}
use Rattle.measuring.proofs.Listed.{single_lines}
use Rattle.measuring.proofs.text.push_leaf_mosts.Given as goal

abbrev pub invariant-loop-leaf : goal.invariant-loop-leaf
invariant-loop-leaf l = Adds l.initial.out.items l.out.items (single_lines leaf_most_line 0 (take l.leaf l.mosts))
