-- The text of a served witness: its schedule, or the line that tells why there is none.
-- To be believed: it is what is printed.
use Rattle.std.specs.Prelude.{ℕ, List, codes, Result, Ok, Err}
use Rattle.serving_model.specs.DdmTypes.declared.turns.Turn.{Turn}
use Rattle.serving_model.specs.TextModel.Faults.{witness_line_fault}
use Rattle.serving_model.specs.TextModel.Schedule.{schedule_text}
use Rattle.serving_model.specs.Serving.{ServingRefusal, no_room, not_served, too_many_turns}

-- the key of a tree file that has to be greater: lists of an accepted tree have a place, so it is that of the ways
abbrev pub refusal_line : ServingRefusal → List ℕ
refusal_line no_room = codes "ddm: no room: ways\n"
refusal_line (not_served line) = witness_line_fault line (codes "NotServed")
refusal_line (too_many_turns line) = witness_line_fault line (codes "TooManyTurns")

abbrev pub served_text : Result (List Turn) ServingRefusal → List ℕ
served_text (Ok turns) = schedule_text turns
served_text (Err refusal) = refusal_line refusal
