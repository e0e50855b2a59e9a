-- What is left of the text of a schedule that is given part by part.
use Rattle.std.specs.Prelude.{ℕ, Bool, true, false, List, []}
use Rattle.ddm_cli.specs.DdmTypes.declared.turns.Turn.{Turn}
use Rattle.ddm_cli.specs.TextModel.Schedule.{schedule_text}

-- the lines of the turns that are left, and the line after them as long as it isn't given
abbrev pub lines_left : List Turn → Bool → List ℕ
lines_left turns false = schedule_text turns
lines_left turns true = []
