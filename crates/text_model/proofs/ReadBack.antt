-- The text of turns is read back.
use Rattle.std.proofs.Common.{◌≡◌, ℕ, ◌+◌, ◌<◌, ◌≤◌, cond, List, [], ◌∷◌, length, Some, None, refl, ap, ◌∙◌, arith}
use Rattle.std.specs.Prelude.{codes, All}
use Rattle.std.proofs.lemmas.Bool.{lt-ltb}
use Rattle.std.proofs.lemmas.List.Elements.{All-tail}
use Rattle.text_model.specs.DdmTypes.declared.turns.Turn.{Turn}
use Rattle.text_model.specs.declared.ScheduleRefusal.TheVariants.{TooManyTurns}
use Rattle.text_model.specs.Schedule.{ShapeView, turn_text, turn_lines, schedule_text, pieces_at, meaning_of, turn_fault, refusal_of_turn, Reading, at_end, with_turn, unless_refused, line_reading, reading_from, reading_of, finished, schedule_of}
use Rattle.text_model.specs.ReadBack.{IsTurnOf, IsSmallShape, IsReadBack}
use Rattle.text_model.proofs.Pieces.{pieces_at-append}
use Rattle.text_model.proofs.TurnTexts.{IsShort-IsTurnOf, meaning_of-turn_text, Lacks-turn_text, schedule_text-turn}

-- the lines of a schedule, and the empty piece behind them
abbrev all_lines : List Turn → List (List ℕ)
all_lines [] = codes "end" ∷ [] ∷ []
all_lines (turn ∷ turns) = turn_text turn ∷ all_lines turns

first_of : (shape : ShapeView) (turn : Turn) (turns : List Turn) → All (IsTurnOf shape) (turn ∷ turns) → IsTurnOf shape turn
first_of shape turn turns all = all 0 turn (omega arith)

pieces_at-schedule_text : (shape : ShapeView) (turns : List Turn) → IsSmallShape shape → All (IsTurnOf shape) turns → pieces_at 10 (schedule_text turns) ≡ all_lines turns
unfolding schedule_text turn_lines pieces_at
pieces_at-schedule_text shape [] small all = refl
pieces_at-schedule_text shape (turn ∷ turns) small all =
    let short = IsShort-IsTurnOf shape turn small (first_of shape turn turns all) in
    ap (λ t. pieces_at 10 t) (schedule_text-turn turn turns)
    ∙ pieces_at-append 10 (turn_text turn) (schedule_text turns) refl (Lacks-turn_text turn short)
    ∙ ap (λ ps. turn_text turn ∷ ps) (pieces_at-schedule_text shape turns small (All-tail (IsTurnOf shape) turn turns all))

not_refused : (shape : ShapeView) (made : ℕ) (turn : Turn) → IsTurnOf shape turn → made < 1048576 → refusal_of_turn shape made turn ≡ None
not_refused shape made turn of room = ap (λ d. cond d (turn_fault shape turn) (Some TooManyTurns)) (lt-ltb made 1048576 room) ∙ of.of_shape

-- the line of a turn adds that turn
line_reading-turn : (shape : ShapeView) (line made : ℕ) (turn : Turn) (next : List ℕ) (pieces : List (List ℕ)) (more : Reading) → IsSmallShape shape → IsTurnOf shape turn → made < 1048576 → line_reading shape line made (meaning_of (turn_text turn)) next pieces more ≡ with_turn turn more
line_reading-turn shape line made turn next pieces more small of room =
    ap (λ m. line_reading shape line made m next pieces more) (meaning_of-turn_text turn (IsShort-IsTurnOf shape turn small of))
    ∙ ap (λ o. unless_refused line o (with_turn turn more)) (not_refused shape made turn of room)

-- the line behind `end`, where the turns begin in a line
abbrev line_behind : ℕ → List Turn → ℕ
line_behind line [] = line + 1
line_behind line (turn ∷ turns) = line_behind (line + 1) turns

-- the reading of a whole schedule that begins in a line
abbrev whole : ℕ → List Turn → Reading
whole line turns = record { turns = turns; standing = at_end (line_behind line turns) }

reading_from-all_lines : (shape : ShapeView) (line made : ℕ) (turns : List Turn) → IsSmallShape shape → All (IsTurnOf shape) turns → made + length turns ≤ 1048576 → reading_from shape line made (all_lines turns) ≡ whole line turns
unfolding reading_from meaning_of
reading_from-all_lines shape line made [] small all room = refl
reading_from-all_lines shape line made (turn ∷ []) small all room =
    line_reading-turn shape line made turn (codes "end") ([] ∷ []) (reading_from shape (line + 1) (made + 1) (all_lines [])) small (first_of shape turn [] all) (omega arith)
    ∙ ap (λ r. with_turn turn r) (reading_from-all_lines shape (line + 1) (made + 1) [] small (All-tail (IsTurnOf shape) turn [] all) (omega arith))
reading_from-all_lines shape line made (turn ∷ next ∷ turns) small all room =
    line_reading-turn shape line made turn (turn_text next) (all_lines turns) (reading_from shape (line + 1) (made + 1) (all_lines (next ∷ turns))) small (first_of shape turn (next ∷ turns) all) (omega arith)
    ∙ ap (λ r. with_turn turn r) (reading_from-all_lines shape (line + 1) (made + 1) (next ∷ turns) small (All-tail (IsTurnOf shape) turn (next ∷ turns) all) (omega arith))

-- the text of turns of a small tree gives those turns
pub schedule_of-schedule_text : (shape : ShapeView) (made : ℕ) (turns : List Turn) → IsSmallShape shape → All (IsTurnOf shape) turns → made + length turns ≤ 1048576 → IsReadBack shape made turns
unfolding schedule_of reading_of
schedule_of-schedule_text shape made turns small all room =
    ap (λ ps. let reading = reading_from shape 1 made ps in finished reading.turns reading.standing) (pieces_at-schedule_text shape turns small all)
    ∙ ap (λ (reading : Reading). finished reading.turns reading.standing) (reading_from-all_lines shape 1 made turns small all room)
