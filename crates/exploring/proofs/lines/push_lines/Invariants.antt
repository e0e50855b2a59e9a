use Rattle.std.proofs.Common.{take}
use Rattle.std.specs.List.{flat_map}
use Rattle.schedule_log.specs.DdmText.Adds.{Adds}
use Rattle.exploring.specs.SearchModel.Explored.{line_text}
use Rattle.exploring.proofs.lines.push_lines.Given as goal

-- the lines so far are there
abbrev pub invariant-loop-line : goal.invariant-loop-line
invariant-loop-line l = Adds l.initial.out.items l.out.items (flat_map (line_text l.word) (take l.line-index l.lines))
