-- How far a text has come, by the number of its turns so far.
use Rattle.std.specs.Prelude.{ℕ, ◌+◌, List, []}
use Rattle.text_model.specs.Schedule.{Standing, in_line, at_end, refused_at, held_of}
use Rattle.schedule_log.specs.declared.standing.Standing.{Standing as Place}
use Rattle.schedule_log.specs.declared.standing.Standing.TheVariants.{InLine, AtEnd, Refused}

-- the line behind so many turns, and the one behind the line `end`
abbrev pub standing_of : ℕ → Place → Standing
standing_of lines InLine = in_line (lines + 1)
standing_of lines AtEnd = at_end (lines + 1 + 1)
standing_of lines (Refused line refusal) = refused_at line refusal

-- the bytes of a text that may go on: those of its last line, where it is in a line
abbrev pub held_in : Standing → List ℕ → List ℕ
held_in (in_line line) text = held_of text
held_in (at_end line) text = []
held_in (refused_at line refusal) text = []
