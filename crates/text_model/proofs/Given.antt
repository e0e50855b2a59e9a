-- The turns that a text gives are turns of the tree, and not too many.
use Rattle.std.proofs.Common.{◌≡◌, ℕ, ◌+◌, ◌<◌, ◌≤◌, Bool, true, false, cond, nat_lt, List, [], ◌∷◌, length, Option, Some, None, Ok, decimal, refl, sym, ap, ◌∙◌, subst, arith}
use Rattle.std.specs.Prelude.{codes, bytes_eq}
use Rattle.std.proofs.lemmas.Bool.{ltb-true}
use Rattle.std.proofs.lemmas.List.Elements.{All-nil, All-cons}
use Rattle.text_model.specs.DdmTypes.declared.turns.Turn.{Turn}
use Rattle.text_model.specs.DdmTypes.declared.turns.Turn.TheVariants.{Hart, Down, Request, Reply, Leave}
use Rattle.ddm_text.specs.Numbers.{number_of}
use Rattle.ddm_text.proofs.Spellings.{number_of-within}
use Rattle.text_model.specs.declared.ScheduleRefusal.{ScheduleRefusal}
use Rattle.text_model.specs.declared.ScheduleRefusal.TheVariants.{TooManyTurns}
use Rattle.text_model.specs.Schedule.{ShapeView, pieces_at, place_in, choice_in, hart_turn_of, leave_turn_of, turn_of_words, LineMeaning, turn_line_of, end_line, no_line, meaning_of, turn_fault, refusal_of_turn, Reading, with_turn, after_end, unless_refused, line_reading, reading_from, reading_of, reading_on, schedule_of}
use Rattle.text_model.specs.ReadBack.{IsTurnOf, choice_of, GivesTurnsOf}
use Rattle.text_model.proofs.Pieces.{some_piece}
use Rattle.text_model.proofs.TurnTexts.{words_of_turn}
use Rattle.text_model.proofs.OneSpelling.{is_ok_by, turn_words, meaning_turn, finished_by}

-- ---- victims and choices

choice_within : (word : List ℕ) (n : ℕ) → choice_in word ≡ Some n → n < 256
choice_within word n e = omega (arith, number_of-within word 255 n (is_ok_by (number_of word 255) n e))

victim_given : (o o' : Option ℕ) (hart victim : ℕ) → hart_turn_of o o' ≡ Some (Hart hart victim) → o' ≡ Some victim
victim_given (Some a) (Some b) hart victim e = cc e
victim_given (Some a) None hart victim e = absurd (cc e)
victim_given None o' hart victim e = absurd (cc e)

choice_given : (o o' o'' : Option ℕ) (bus child choice : ℕ) → leave_turn_of o o' o'' ≡ Some (Leave bus child choice) → o'' ≡ Some choice
choice_given (Some a) (Some b) (Some c) bus child choice e = cc e
choice_given (Some a) (Some b) None bus child choice e = absurd (cc e)
choice_given (Some a) None o'' bus child choice e = absurd (cc e)
choice_given None o' o'' bus child choice e = absurd (cc e)

choice_of-words_of_turn : (turn : Turn) → turn_of_words (words_of_turn turn) ≡ Some turn → choice_of turn < 256
unfolding turn_of_words
choice_of-words_of_turn (Hart hart victim) e = choice_within (decimal victim) victim (victim_given (place_in (decimal hart)) (choice_in (decimal victim)) hart victim e)
choice_of-words_of_turn (Down bus) e = omega arith
choice_of-words_of_turn (Request bus child) e = omega arith
choice_of-words_of_turn (Reply bus child) e = omega arith
choice_of-words_of_turn (Leave bus child choice) e = choice_within (decimal choice) choice (choice_given (place_in (decimal bus)) (place_in (decimal child)) (choice_in (decimal choice)) bus child choice e)

choice_of-meaning_of : (line : List ℕ) (turn : Turn) → meaning_of line ≡ turn_line_of turn → choice_of turn < 256
unfolding meaning_of
choice_of-meaning_of line turn e =
    let given = meaning_turn (nat_lt 24 (length line)) (bytes_eq line (codes "end")) (turn_of_words (pieces_at 32 line)) turn e in
    choice_of-words_of_turn turn (ap turn_of_words (sym (turn_words (pieces_at 32 line) turn given)) ∙ given)

-- ---- a text

not_refused : (d : Bool) (o : Option ScheduleRefusal) → cond d o (Some TooManyTurns) ≡ None → (d ≡ true) × (o ≡ None)
not_refused true o e = (refl, e)
not_refused false o e = absurd (cc e)

gives_nothing : (shape : ShapeView) (made : ℕ) → made ≤ 1048576 → GivesTurnsOf shape made []
gives_nothing shape made room = record { each = All-nil (IsTurnOf shape); room = omega (arith, room) }

given_turn : (shape : ShapeView) (line made : ℕ) (o : Option ScheduleRefusal) (turn : Turn) (more : Reading) → refusal_of_turn shape made turn ≡ o → choice_of turn < 256 → made ≤ 1048576 → (made + 1 ≤ 1048576 → GivesTurnsOf shape (made + 1) more.turns) → GivesTurnsOf shape made (unless_refused line o (with_turn turn more)).turns
given_turn shape line made None turn more is choice room rest =
    let allowed = not_refused (nat_lt made 1048576) (turn_fault shape turn) is in
    let below : made < 1048576 = ltb-true made 1048576 allowed.0 in
    let behind = rest (omega (arith, below)) in
    record {
      each = All-cons (IsTurnOf shape) turn more.turns (record { of_shape = allowed.1; choice = choice }) behind.each;
      room = omega (arith, behind.room);
    }
given_turn shape line made (Some refusal) turn more is choice room rest = gives_nothing shape made room

given_end : (shape : ShapeView) (made line : ℕ) (p : List ℕ) (ps : List (List ℕ)) → made ≤ 1048576 → GivesTurnsOf shape made (after_end line p ps).turns
given_end shape made line [] [] room = gives_nothing shape made room
given_end shape made line [] (r ∷ ps) room = gives_nothing shape made room
given_end shape made line (byte ∷ p) ps room = gives_nothing shape made room

given_line : (shape : ShapeView) (line made : ℕ) (m : LineMeaning) (piece next : List ℕ) (pieces : List (List ℕ)) (more : Reading) → meaning_of piece ≡ m → made ≤ 1048576 → (made + 1 ≤ 1048576 → GivesTurnsOf shape (made + 1) more.turns) → GivesTurnsOf shape made (line_reading shape line made m next pieces more).turns
given_line shape line made (turn_line_of turn) piece next pieces more is room rest = given_turn shape line made (refusal_of_turn shape made turn) turn more refl (choice_of-meaning_of piece turn is) room rest
given_line shape line made end_line piece next pieces more is room rest = given_end shape made (line + 1) next pieces room
given_line shape line made no_line piece next pieces more is room rest = gives_nothing shape made room

given_from : (shape : ShapeView) (line made : ℕ) (piece : List ℕ) (pieces : List (List ℕ)) → made ≤ 1048576 → GivesTurnsOf shape made (reading_from shape line made (piece ∷ pieces)).turns
unfolding reading_from
given_from shape line made piece [] room = gives_nothing shape made room
given_from shape line made piece (next ∷ pieces) room =
    given_line shape line made (meaning_of piece) piece next pieces (reading_from shape (line + 1) (made + 1) (next ∷ pieces)) refl room (λ more. given_from shape (line + 1) (made + 1) next pieces more)

-- every text gives turns of the tree
pub turns-reading_on : (shape : ShapeView) (line made : ℕ) (text : List ℕ) → made ≤ 1048576 → GivesTurnsOf shape made (reading_on shape line made text).turns
turns-reading_on shape line made text room =
    let some = some_piece 10 text in
    let P : List (List ℕ) → Type 0 = λ ps. GivesTurnsOf shape made (reading_from shape line made ps).turns in
    subst P (sym some.2) (given_from shape line made some.0 some.1 room)

-- so does an accepted text
pub turns-schedule_of : (shape : ShapeView) (made : ℕ) (text : List ℕ) (turns : List Turn) → made ≤ 1048576 → schedule_of shape made text ≡ Ok turns → GivesTurnsOf shape made turns
unfolding schedule_of reading_of
turns-schedule_of shape made text turns room e =
    let reading = reading_on shape 1 made text in
    let given = finished_by reading.turns reading.standing turns e in
    let P : List Turn → Type 0 = λ ts. GivesTurnsOf shape made ts in
    subst P given.2 (turns-reading_on shape 1 made text room)
