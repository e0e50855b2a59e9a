use Rattle.std.proofs.Common.{take}
use Rattle.std.specs.List.{flat_map}
use Rattle.joining.specs.DdmText.Adds.{Adds}
use Rattle.joining.specs.OutcomeModel.Table.{line_text}
use Rattle.joining.proofs.text.push_lines.Given as goal

abbrev pub invariant-loop-line : goal.invariant-loop-line
invariant-loop-line l = Adds l.initial.out.items l.out.items (flat_map line_text (take l.line-index l.lines))
