use Rattle.std.proofs.Common.{take}
use Rattle.schedule_log.specs.DdmText.Adds.{Adds}
use Rattle.text_model.specs.Schedule.{turn_lines}
use Rattle.schedule_log.proofs.writing.push_lines.Given as goal

abbrev pub invariant-loop-turn : goal.invariant-loop-turn
invariant-loop-turn l = Adds l.initial.out.items l.out.items (turn_lines (take l.turn-index l.turns))
