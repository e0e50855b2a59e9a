-- The trace of a run: a line for each turn, with what it answered.
use Rattle.std.specs.Prelude.{ℕ, ◌+◌, List, [], ◌∷◌, ◌++◌, codes, decimal}
use Rattle.text_model.specs.DdmTypes.declared.turns.Turn.{Turn}
use Rattle.text_model.specs.DdmTypes.declared.answers.TurnAnswer.{TurnAnswer}
use Rattle.text_model.specs.Schedule.{turn_text}
use Rattle.text_model.specs.Words.{answer_text}

-- a turn, counted from 0, and its answer
unfoldable pub trace_line : ℕ → Turn → TurnAnswer → List ℕ
trace_line number turn answer = codes "t " ++ decimal number ++ codes " " ++ turn_text turn ++ codes " " ++ answer_text answer ++ codes "\n"

-- the lines of turns from a number on
unfoldable pub trace_from : ℕ → List Turn → List TurnAnswer → List ℕ
trace_from number [] answers = []
trace_from number (turn ∷ turns) [] = []
trace_from number (turn ∷ turns) (answer ∷ answers) = trace_line number turn answer ++ trace_from (number + 1) turns answers

-- the whole trace
unfoldable pub trace_text : List Turn → List TurnAnswer → List ℕ
trace_text turns answers = trace_from 0 turns answers
