-- The first line of a text, and what the text gives by it.
use Rattle.std.proofs.Common.{◌≡◌, ℕ, suc, ◌+◌, ◌-◌, ◌<◌, ◌≤◌, Bool, true, false, nat_le, nat_lt, List, [], ◌∷◌, ◌++◌, length, take, drop, Option, Some, None, cond, refl, sym, ap, ◌∙◌, subst, append_assoc, length-append, arith}
use Rattle.std.specs.Prelude.{position, bytes_eq, codes}
use Rattle.std.proofs.lemmas.Bool.{le-ltb}
use Rattle.std.proofs.lemmas.Bool.Decides.{nat_tests}
use Rattle.std.proofs.lemmas.List.{length-take, get_or-take, take-take, take_all, take-append-drop}
use Rattle.schedule_log.specs.DdmTypes.declared.turns.Turn.{Turn}
use Rattle.schedule_log.specs.DdmText.Lines.{first_line, cut_at, is_line_feed}
use Rattle.schedule_log.specs.DdmText.declared.lines.LineCut.TheVariants.{Line, LineTooLong, NoEndOfLine}
use Rattle.text_model.specs.declared.ScheduleRefusal.{ScheduleRefusal}
use Rattle.text_model.specs.declared.ScheduleRefusal.TheVariants.{BadTurn, TooManyTurns}
use Rattle.text_model.specs.Schedule.{ShapeView, pieces_at, turn_of_words, turn_text, line_of_turn, meaning_of, LineMeaning, turn_line_of, end_line, no_line, turn_fault, refusal_of_turn, refused_at, nothing_but, with_turn, unless_refused, reading_on, reading_of_line, end_with, held_of, last_piece}
use Rattle.text_model.specs.Lines.{Lacks}
use Rattle.text_model.proofs.Pieces.{pieces_at-whole, pieces_at-append, some_piece}
use Rattle.text_model.proofs.Parts.{reading_on-open, reading_on-long, reading_on-line}
use Rattle.schedule_log.specs.declared.standing.Standing.{Standing as Place}
use Rattle.schedule_log.specs.declared.standing.Standing.TheVariants.{InLine, AtEnd, Refused}
use Rattle.schedule_log.specs.Standings.{standing_of}
use Rattle.schedule_log.specs.Spelled.{BeginsWithLine}
use Rattle.schedule_log.specs.Steps.{IsLine, HoldsAll, StopsAt, StepGives, step_by}
use Rattle.schedule_log.proofs.Cuts.{split_at, cut_of, uncut_of}

-- ---- where it ends

ends_by : (text : List ℕ) (most n : ℕ) (o : Option ℕ) → cut_at text most o ≡ Line n → o ≡ Some n
ends_by text most n (Some place) e = cc e
ends_by text most n None e = absurd (none (nat_le (length text) most) e) where
  none : (b : Bool) → cond b NoEndOfLine LineTooLong ≡ Line n → ⊥
  none true e = cc e
  none false e = cc e

pub line_of : (text : List ℕ) (n : ℕ) → first_line text 24 ≡ Line n → IsLine text n
unfolding first_line
line_of text n e =
    let found = ends_by text 24 n (position is_line_feed (take (24 + 1) text)) e in
    let cut = cut_of 10 (take 25 text) n found in
    let few : n ≤ 24 = omega (arith, cut.inside, length-take 25 text) in
    let inside : n < length text = omega (arith, cut.inside, length-take 25 text) in
    let front : take n (take 25 text) ≡ take n text = take-take n 25 text (omega arith) in
    let one_more : suc n ≡ n + 1 = omega arith in
    record {
      few = few;
      inside = inside;
      lacks = subst (λ (t : List ℕ). Lacks 10 t) front cut.lacks;
      is = split_at text n inside ∙ ap (λ b. take n text ++ b ∷ drop (suc n) text) (sym (get_or-take 25 text n 0 (omega arith)) ∙ cut.here) ∙ ap (λ (i : ℕ). take n text ++ 10 ∷ drop i text) one_more;
    }

open_by : (text : List ℕ) (most : ℕ) (o : Option ℕ) → cut_at text most o ≡ NoEndOfLine → (o ≡ None) × (length text ≤ most)
open_by text most (Some place) e = absurd (cc e)
open_by text most None e = (refl, grind (arith, nat_tests))

long_by : (text : List ℕ) (most : ℕ) (o : Option ℕ) → cut_at text most o ≡ LineTooLong → (o ≡ None) × (most < length text)
long_by text most (Some place) e = absurd (cc e)
long_by text most None e = (refl, grind (arith, nat_tests))

-- a line that isn't ended
pub open_text : (text : List ℕ) → first_line text 24 ≡ NoEndOfLine → Lacks 10 text × (length text ≤ 24)
unfolding first_line
open_text text e =
    let facts = open_by text 24 (position is_line_feed (take (24 + 1) text)) e in
    (subst (λ (t : List ℕ). Lacks 10 t) (take_all 25 text (omega (arith, facts.1))) (uncut_of 10 (take 25 text) facts.0), facts.1)

-- a line that is too long
pub long_text : (shape : ShapeView) (line made : ℕ) (text : List ℕ) → first_line text 24 ≡ LineTooLong → reading_on shape line made text ≡ nothing_but (refused_at line BadTurn)
unfolding first_line
long_text shape line made text e =
    let facts = long_by text 24 (position is_line_feed (take (24 + 1) text)) e in
    let front = take 25 text in
    ap (λ t. reading_on shape line made t) (sym (take-append-drop 25 text))
    ∙ reading_on-long shape line made front (drop 25 text) (uncut_of 10 front facts.0) (omega (arith, length-take 25 text, facts.1))

-- ---- what is held

pub held_all : (text : List ℕ) → Lacks 10 text → held_of text ≡ text
unfolding held_of
held_all text lacks = ap (λ ps. last_piece ps) (pieces_at-whole 10 text lacks)

-- behind a whole line
pub held_line : (line more : List ℕ) → Lacks 10 line → held_of (line ++ 10 ∷ more) ≡ held_of more
unfolding held_of
held_line line more lacks =
    let some = some_piece 10 more in
    ap (λ ps. last_piece ps) (pieces_at-append 10 line more refl lacks ∙ ap (λ ps. line ∷ ps) some.2)
    ∙ sym (ap (λ ps. last_piece ps) some.2)

pub held_behind : (text : List ℕ) (n : ℕ) → IsLine text n → held_of text ≡ held_of (drop (n + 1) text)
held_behind text n line = ap held_of line.is ∙ held_line (take n text) (drop (n + 1) text) line.lacks

-- ---- what it says

short_meaning : (line : List ℕ) → length line ≤ 24 → meaning_of line ≡ cond (bytes_eq line (codes "end")) end_line (line_of_turn (turn_of_words (pieces_at 32 line)))
unfolding meaning_of
short_meaning line few =
    ap (λ d. cond d no_line (cond (bytes_eq line (codes "end")) end_line (line_of_turn (turn_of_words (pieces_at 32 line))))) (le-ltb 24 (length line) few)

-- what a text gives by its first line
by_line : (shape : ShapeView) (line made : ℕ) (text : List ℕ) (n : ℕ) (m : LineMeaning) → IsLine text n → meaning_of (take n text) ≡ m → reading_on shape line made text ≡ reading_of_line shape line made m (drop (n + 1) text)
by_line shape line made text n m cut says =
    ap (λ t. reading_on shape line made t) cut.is
    ∙ reading_on-line shape line made (take n text) (drop (n + 1) text) cut.lacks
    ∙ ap (λ m. reading_of_line shape line made m (drop (n + 1) text)) says

short : (text : List ℕ) (n : ℕ) → IsLine text n → length (take n text) ≤ 24
short text n cut = omega (arith, length-take n text, cut.few)

pub by_end : (shape : ShapeView) (line made : ℕ) (text : List ℕ) (n : ℕ) → IsLine text n → bytes_eq (take n text) (codes "end") ≡ true → reading_on shape line made text ≡ nothing_but (end_with (line + 1) (drop (n + 1) text))
by_end shape line made text n cut same =
    by_line shape line made text n end_line cut (short_meaning (take n text) (short text n cut) ∙ ap (λ b. cond b end_line (line_of_turn (turn_of_words (pieces_at 32 (take n text))))) same)

says_turn : (text : List ℕ) (n : ℕ) (o : Option Turn) → IsLine text n → bytes_eq (take n text) (codes "end") ≡ false → turn_of_words (pieces_at 32 (take n text)) ≡ o → meaning_of (take n text) ≡ line_of_turn o
says_turn text n o cut other turn =
    short_meaning (take n text) (short text n cut)
    ∙ ap (λ b. cond b end_line (line_of_turn (turn_of_words (pieces_at 32 (take n text))))) other
    ∙ ap (λ o. line_of_turn o) turn

pub by_no_turn : (shape : ShapeView) (line made : ℕ) (text : List ℕ) (n : ℕ) → IsLine text n → bytes_eq (take n text) (codes "end") ≡ false → turn_of_words (pieces_at 32 (take n text)) ≡ None → reading_on shape line made text ≡ nothing_but (refused_at line BadTurn)
by_no_turn shape line made text n cut other turn = by_line shape line made text n no_line cut (says_turn text n None cut other turn)

pub by_turn : (shape : ShapeView) (line made : ℕ) (text : List ℕ) (n : ℕ) (turn : Turn) → IsLine text n → bytes_eq (take n text) (codes "end") ≡ false → turn_of_words (pieces_at 32 (take n text)) ≡ Some turn → refusal_of_turn shape made turn ≡ None → reading_on shape line made text ≡ with_turn turn (reading_on shape (line + 1) (made + 1) (drop (n + 1) text))
by_turn shape line made text n turn cut other is_turn fits =
    by_line shape line made text n (turn_line_of turn) cut (says_turn text n (Some turn) cut other is_turn)
    ∙ ap (λ o. unless_refused line o (with_turn turn (reading_on shape (line + 1) (made + 1) (drop (n + 1) text)))) fits

pub by_refused_turn : (shape : ShapeView) (line made : ℕ) (text : List ℕ) (n : ℕ) (turn : Turn) (refusal : ScheduleRefusal) → IsLine text n → bytes_eq (take n text) (codes "end") ≡ false → turn_of_words (pieces_at 32 (take n text)) ≡ Some turn → refusal_of_turn shape made turn ≡ Some refusal → reading_on shape line made text ≡ nothing_but (refused_at line refusal)
by_refused_turn shape line made text n turn refusal cut other is_turn refused =
    by_line shape line made text n (turn_line_of turn) cut (says_turn text n (Some turn) cut other is_turn)
    ∙ ap (λ o. unless_refused line o (with_turn turn (reading_on shape (line + 1) (made + 1) (drop (n + 1) text)))) refused

-- ---- steps

fits_room : (shape : ShapeView) (made : ℕ) (turn : Turn) (b : Bool) (o : Option ScheduleRefusal) → nat_lt made 1048576 ≡ b → cond b o (Some TooManyTurns) ≡ None → made < 1048576
fits_room shape made turn true o below e = grind (arith, nat_tests)
fits_room shape made turn false o below e = absurd (cc e)

-- the first line is a turn
pub turn_step : (shape : ShapeView) (lines made : ℕ) (text : List ℕ) (n : ℕ) (turn : Turn) (o : Option ScheduleRefusal) → IsLine text n → bytes_eq (take n text) (codes "end") ≡ false → turn_of_words (pieces_at 32 (take n text)) ≡ Some turn → refusal_of_turn shape made turn ≡ o
    → StepGives shape lines made text (step_by o lines turn (n + 1))
turn_step shape lines made text n turn None cut other is_turn fits = record {
  reading = by_turn shape (lines + 1) made text n turn cut other is_turn fits;
  held = held_behind text n cut;
  some = omega arith;
  within = omega (arith, cut.inside);
  room = fits_room shape made turn (nat_lt made 1048576) (turn_fault shape turn) refl fits;
}
turn_step shape lines made text n turn (Some refusal) cut other is_turn refused = record {
  reading = by_refused_turn shape (lines + 1) made text n turn refusal cut other is_turn refused;
  held = tt;
}

-- the first line is neither a turn nor the end
pub no_turn_step : (shape : ShapeView) (lines made : ℕ) (text : List ℕ) (n : ℕ) → IsLine text n → bytes_eq (take n text) (codes "end") ≡ false → turn_of_words (pieces_at 32 (take n text)) ≡ None
    → StopsAt shape lines made text (Refused (lines + 1) BadTurn)
no_turn_step shape lines made text n cut other none = record { reading = by_no_turn shape (lines + 1) made text n cut other none; held = tt }

holds_end : (lines : ℕ) (standing : Place) (more text : List ℕ) → standing_of lines standing ≡ end_with (lines + 1 + 1) more → HoldsAll standing text
holds_end lines InLine [] text e = absurd (cc e)
holds_end lines InLine (byte ∷ more) text e = absurd (cc e)
holds_end lines AtEnd more text e = tt
holds_end lines (Refused line refusal) more text e = tt

-- the first line is the end
pub end_step : (shape : ShapeView) (lines made : ℕ) (text : List ℕ) (n : ℕ) (standing : Place) → IsLine text n → bytes_eq (take n text) (codes "end") ≡ true → standing_of lines standing ≡ end_with (lines + 1 + 1) (drop (n + 1) text)
    → StopsAt shape lines made text standing
end_step shape lines made text n standing cut same is = record {
  reading = by_end shape (lines + 1) made text n cut same ∙ ap (λ s. nothing_but s) (sym is);
  held = holds_end lines standing (drop (n + 1) text) text is;
}

-- no line is whole
pub open_step : (shape : ShapeView) (lines made : ℕ) (text : List ℕ) → first_line text 24 ≡ NoEndOfLine → StopsAt shape lines made text InLine
open_step shape lines made text e =
    let facts = open_text text e in
    record { reading = reading_on-open shape (lines + 1) made text facts.0 facts.1; held = held_all text facts.0 }

pub long_step : (shape : ShapeView) (lines made : ℕ) (text : List ℕ) → first_line text 24 ≡ LineTooLong → StopsAt shape lines made text (Refused (lines + 1) BadTurn)
long_step shape lines made text e = record { reading = long_text shape (lines + 1) made text e; held = tt }

-- ---- the spelling of a turn

text_is : (text : List ℕ) (turn : Turn) (rest : List ℕ) → BeginsWithLine text turn rest → text ≡ turn_text turn ++ 10 ∷ rest
text_is text turn rest begins = begins.front.is ∙ append_assoc (turn_text turn) (10 ∷ []) rest

-- the line has the bytes that aren't behind it
pub lengths : (text : List ℕ) (turn : Turn) (rest : List ℕ) → BeginsWithLine text turn rest → length text ≡ length (turn_text turn) + 1 + length rest
lengths text turn rest begins = ap length (text_is text turn rest begins) ∙ length-append (turn_text turn) (10 ∷ rest) ∙ one_more (length (turn_text turn)) (length rest) where
  one_more : (m n : ℕ) → m + suc n ≡ m + 1 + n
  one_more m n = omega arith

behind_line : (line rest : List ℕ) → drop (length line + 1) (line ++ 10 ∷ rest) ≡ rest
behind_line [] rest = refl
behind_line (byte ∷ line) rest = ap (λ n. drop n (byte ∷ (line ++ 10 ∷ rest))) (shift (length line)) ∙ behind_line line rest where
  shift : (n : ℕ) → suc n + 1 ≡ suc (n + 1)
  shift n = omega arith

-- the first line spells a turn
pub spelled_step : (shape : ShapeView) (lines made : ℕ) (text : List ℕ) (turn : Turn) (rest : List ℕ) (used : ℕ) (o : Option ScheduleRefusal) → BeginsWithLine text turn rest → used ≡ length text - length rest → refusal_of_turn shape made turn ≡ o
    → StepGives shape lines made text (step_by o lines turn used)
spelled_step shape lines made text turn rest used o begins so_many judged =
    let line = turn_text turn in
    let is = text_is text turn rest begins in
    let many : used ≡ length line + 1 = omega (arith, so_many, lengths text turn rest begins) in
    let behind : drop used text ≡ rest = ap (λ n. drop n text) many ∙ ap (λ (t : List ℕ). drop (length line + 1) t) is ∙ behind_line line rest in
    let gives : reading_on shape (lines + 1) made text ≡ unless_refused (lines + 1) o (with_turn turn (reading_on shape (lines + 1 + 1) (made + 1) rest)) =
    ap (λ t. reading_on shape (lines + 1) made t) is ∙ reading_on-line shape (lines + 1) made line rest begins.lacks
    ∙ ap (λ m. reading_of_line shape (lines + 1) made m rest) begins.says
    ∙ ap (λ o. unless_refused (lines + 1) o (with_turn turn (reading_on shape (lines + 1 + 1) (made + 1) rest))) judged in
    by_judgement o judged gives (ap held_of is ∙ held_line line rest begins.lacks) behind (omega (arith, many)) (omega (arith, many, lengths text turn rest begins))
  where
    by_judgement : (o : Option ScheduleRefusal) → refusal_of_turn shape made turn ≡ o
        → reading_on shape (lines + 1) made text ≡ unless_refused (lines + 1) o (with_turn turn (reading_on shape (lines + 1 + 1) (made + 1) rest))
        → held_of text ≡ held_of rest → drop used text ≡ rest → 0 < used → used ≤ length text
        → StepGives shape lines made text (step_by o lines turn used)
    by_judgement None judged gives held behind some within = record {
      reading = gives ∙ ap (λ (t : List ℕ). with_turn turn (reading_on shape (lines + 1 + 1) (made + 1) t)) (sym behind);
      held = held ∙ ap held_of (sym behind);
      some = some;
      within = within;
      room = fits_room shape made turn (nat_lt made 1048576) (turn_fault shape turn) refl judged;
    }
    by_judgement (Some refusal) judged gives held behind some within = record { reading = gives; held = tt }
