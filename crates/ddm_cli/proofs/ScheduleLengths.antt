-- A schedule that isn't refused is short: each of its lines has few bytes, and its turns are few.
use Rattle.std.proofs.Common.{◌≡◌, ℕ, ◌+◌, ◌*◌, ◌≤◌, Bool, true, false, cond, nat_lt, List, [], ◌∷◌, length, Option, Some, None, refl, sym, arith}
use Rattle.std.specs.Prelude.{nat_eq}
use Rattle.std.proofs.lemmas.Bool.Decides.{nat_tests}
use Rattle.ddm_cli.specs.DdmTypes.declared.turns.Turn.{Turn}
use Rattle.ddm_cli.specs.TextModel.declared.ScheduleRefusal.{ScheduleRefusal}
use Rattle.ddm_cli.specs.TextModel.Schedule.{ShapeView, Standing, in_line, at_end, refused_at, Reading, LineMeaning, turn_line_of, end_line, no_line, with_byte_before, pieces_at, meaning_of, refusal_of_turn, with_turn, after_end, unless_refused, line_reading, reading_from, reading_of}
use Rattle.ddm_cli.proofs.TextModel.Given.{turns-reading_on}

-- a text that may go on, or has come to its end
abbrev pub GoesOn : Standing → Type 0
GoesOn (in_line line) = Unit {0}
GoesOn (at_end line) = Unit {0}
GoesOn (refused_at line refusal) = ⊥

-- ---- bytes

-- the bytes of pieces, with one after each
abbrev total : List (List ℕ) → ℕ
total [] = 0
total (piece ∷ pieces) = length piece + 1 + total pieces

total_with : (separator byte : ℕ) (pieces : List (List ℕ)) → 1 ≤ length pieces → total (with_byte_before separator byte pieces) ≡ total pieces + 1
total_with separator byte [] some = absurd (omega (arith, some))
total_with separator byte (piece ∷ pieces) some = by (nat_eq byte separator) where
  by : (b : Bool) → total (cond b ([] ∷ piece ∷ pieces) ((byte ∷ piece) ∷ pieces)) ≡ total (piece ∷ pieces) + 1
  by true = omega arith
  by false = omega arith

some_with : (separator byte : ℕ) (pieces : List (List ℕ)) → 1 ≤ length (with_byte_before separator byte pieces)
some_with separator byte [] = omega arith
some_with separator byte (piece ∷ pieces) = by (nat_eq byte separator) where
  by : (b : Bool) → 1 ≤ length (cond b ([] ∷ piece ∷ pieces) ((byte ∷ piece) ∷ pieces))
  by true = omega arith
  by false = omega arith

some_pieces : (separator : ℕ) (text : List ℕ) → 1 ≤ length (pieces_at separator text)
unfolding pieces_at
some_pieces separator [] = omega arith
some_pieces separator (byte ∷ text) = some_with separator byte (pieces_at separator text)

total_pieces : (separator : ℕ) (text : List ℕ) → total (pieces_at separator text) ≡ length text + 1
unfolding pieces_at
total_pieces separator [] = refl
total_pieces separator (byte ∷ text) =
    let more = total_pieces separator text in
    omega (arith, total_with separator byte (pieces_at separator text) (some_pieces separator text), more)

-- ---- lines

-- a line that says something is short
short_line : (line : List ℕ) (m : LineMeaning) → meaning_of line ≡ m → (m ≡ no_line → ⊥) → length line ≤ 24
unfolding meaning_of
short_line line m is says = by (nat_lt 24 (length line)) _ refl is where
  by : (long : Bool) (other : LineMeaning) → nat_lt 24 (length line) ≡ long → cond long no_line other ≡ m → length line ≤ 24
  by true other e is = absurd (says (sym is))
  by false other e is = grind (arith, nat_tests, e)

-- pieces of which none is refused
abbrev IsShort : List (List ℕ) → Reading → Type 0
IsShort pieces r = GoesOn r.standing → total pieces ≤ 25 * length r.turns + 26

short_end : (line : ℕ) (piece next : List ℕ) (pieces : List (List ℕ)) → length piece ≤ 24 → IsShort (piece ∷ next ∷ pieces) (after_end line next pieces)
short_end line piece [] [] few on = omega (arith, few)
short_end line piece [] (p ∷ ps) few on = absurd on
short_end line piece (byte ∷ bytes) pieces few on = absurd on

short_turn : (line : ℕ) (o : Option ScheduleRefusal) (turn : Turn) (piece : List ℕ) (pieces : List (List ℕ)) (more : Reading) → length piece ≤ 24 → IsShort pieces more → IsShort (piece ∷ pieces) (unless_refused line o (with_turn turn more))
short_turn line None turn piece pieces more few rest on = let behind = rest on in omega (arith, few, behind)
short_turn line (Some refusal) turn piece pieces more few rest on = absurd on

short_reading : (shape : ShapeView) (line made : ℕ) (m : LineMeaning) (piece next : List ℕ) (pieces : List (List ℕ)) (more : Reading) → meaning_of piece ≡ m → IsShort (next ∷ pieces) more
    → IsShort (piece ∷ next ∷ pieces) (line_reading shape line made m next pieces more)
short_reading shape line made (turn_line_of turn) piece next pieces more is rest on = short_turn line (refusal_of_turn shape made turn) turn piece (next ∷ pieces) more (short_line piece (turn_line_of turn) is (λ e. cc e)) rest on
short_reading shape line made end_line piece next pieces more is rest on = short_end (line + 1) piece next pieces (short_line piece end_line is (λ e. cc e)) on
short_reading shape line made no_line piece next pieces more is rest on = absurd on

short_last : (line : ℕ) (piece : List ℕ) (long : Bool) (r : ScheduleRefusal) → nat_lt 24 (length piece) ≡ long → GoesOn (cond long (refused_at line r) (in_line line)) → total (piece ∷ []) ≤ 26
short_last line piece true r e on = absurd on
short_last line piece false r e on = let few : length piece ≤ 24 = grind (arith, nat_tests, e) in omega (arith, few)

short_from : (shape : ShapeView) (line made : ℕ) (pieces : List (List ℕ)) → IsShort pieces (reading_from shape line made pieces)
unfolding reading_from
short_from shape line made [] on = omega arith
short_from shape line made (piece ∷ []) on = short_last line piece (nat_lt 24 (length piece)) _ refl on
short_from shape line made (piece ∷ next ∷ pieces) on =
    short_reading shape line made (meaning_of piece) piece next pieces (reading_from shape (line + 1) (made + 1) (next ∷ pieces)) refl (short_from shape (line + 1) (made + 1) (next ∷ pieces)) on

-- ---- a text

pub short_text : (shape : ShapeView) (made : ℕ) (text : List ℕ) → made ≤ 1048576 → GoesOn (reading_of shape made text).standing → length text ≤ 26214425
unfolding reading_of
short_text shape made text few on =
    let given = turns-reading_on shape 1 made text few in
    let bytes = short_from shape 1 made (pieces_at 10 text) on in
    let size = total_pieces 10 text in
    omega (arith, bytes, size, given.room)
