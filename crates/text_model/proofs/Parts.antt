-- A text that is read line by line, or part by part.
use Rattle.std.proofs.Common.{◌≡◌, ℕ, ◌+◌, ◌<◌, ◌≤◌, Bool, true, false, not, cond, nat_eq, List, [], ◌∷◌, ◌++◌, length, refl, sym, ap, ◌∙◌, length-append, arith}
use Rattle.std.specs.List.{list_all}
use Rattle.std.specs.Prelude.{bytes_eq, codes}
use Rattle.std.proofs.lemmas.Bool.{lt-ltb, le-ltb}
use Rattle.text_model.specs.declared.ScheduleRefusal.TheVariants.{BadTurn, AfterEnd}
use Rattle.text_model.specs.Schedule.{ShapeView, with_byte_before, pieces_at, turn_of_words, line_of_turn, meaning_of, LineMeaning, turn_line_of, end_line, no_line, refusal_of_turn, in_line, at_end, refused_at, Reading, nothing_but, with_turn, after_end, unless_refused, line_reading, reading_from, reading_on, end_with, reading_of_line}
use Rattle.text_model.specs.Lines.{Lacks}
use Rattle.text_model.proofs.Pieces.{both, goes_on, some_piece, pieces_at-whole, pieces_at-append}

-- ---- the front of a text that lacks line feeds

-- a text before the first piece
abbrev pub in_front : List ℕ → List (List ℕ) → List (List ℕ)
in_front text [] = text ∷ []
in_front text (piece ∷ pieces) = (text ++ piece) ∷ pieces

in_front_byte : (separator byte : ℕ) (text : List ℕ) (pieces : List (List ℕ)) → not (nat_eq byte separator) ≡ true → with_byte_before separator byte (in_front text pieces) ≡ in_front (byte ∷ text) pieces
in_front_byte separator byte text [] other = goes_on (nat_eq byte separator) byte text [] other
in_front_byte separator byte text (piece ∷ pieces) other = goes_on (nat_eq byte separator) byte (text ++ piece) pieces other

pub in_front_nothing : (pieces : List (List ℕ)) (piece : List ℕ) (more : List (List ℕ)) → pieces ≡ piece ∷ more → pieces ≡ in_front [] pieces
in_front_nothing pieces piece more e = e ∙ ap (λ ps. in_front [] ps) (sym e)

-- a text that lacks the separator stands before the first piece of what follows
pub pieces_at-front : (separator : ℕ) (text more : List ℕ) → Lacks separator text → pieces_at separator (text ++ more) ≡ in_front text (pieces_at separator more)
unfolding pieces_at
pieces_at-front separator [] more lacks = let some = some_piece separator more in in_front_nothing (pieces_at separator more) some.0 some.1 some.2
pieces_at-front separator (byte ∷ text) more lacks =
    let parts = both (not (nat_eq byte separator)) (list_all (λ b. not (nat_eq b separator)) text) lacks in
    ap (λ pieces. with_byte_before separator byte pieces) (pieces_at-front separator text more parts.1)
    ∙ in_front_byte separator byte text (pieces_at separator more) parts.0

-- ---- a line

meaning_of-long : (text : List ℕ) → 24 < length text → meaning_of text ≡ no_line
unfolding meaning_of
meaning_of-long text more =
    ap (λ d. cond d no_line (cond (bytes_eq text (codes "end")) end_line (line_of_turn (turn_of_words (pieces_at 32 text))))) (lt-ltb 24 (length text) more)

pub reading_from-long : (shape : ShapeView) (line made : ℕ) (piece : List ℕ) (pieces : List (List ℕ)) → 24 < length piece → reading_from shape line made (piece ∷ pieces) ≡ nothing_but (refused_at line BadTurn)
unfolding reading_from
reading_from-long shape line made piece [] more = ap (λ d. nothing_but (cond d (refused_at line BadTurn) (in_line line))) (lt-ltb 24 (length piece) more)
reading_from-long shape line made piece (next ∷ pieces) more =
    ap (λ m. line_reading shape line made m next pieces (reading_from shape (line + 1) (made + 1) (next ∷ pieces))) (meaning_of-long piece more)

-- a line that isn't ended and not too long
pub reading_on-open : (shape : ShapeView) (line made : ℕ) (text : List ℕ) → Lacks 10 text → length text ≤ 24 → reading_on shape line made text ≡ nothing_but (in_line line)
unfolding reading_from
reading_on-open shape line made text lacks few =
    ap (λ ps. reading_from shape line made ps) (pieces_at-whole 10 text lacks)
    ∙ ap (λ d. nothing_but (cond d (refused_at line BadTurn) (in_line line))) (le-ltb 24 (length text) few)

-- a line that is too long, whatever follows
pub reading_on-long : (shape : ShapeView) (line made : ℕ) (text more : List ℕ) → Lacks 10 text → 24 < length text → reading_on shape line made (text ++ more) ≡ nothing_but (refused_at line BadTurn)
reading_on-long shape line made text more lacks many =
    let some = some_piece 10 more in
    ap (λ ps. reading_from shape line made ps) (pieces_at-front 10 text more lacks ∙ ap (λ ps. in_front text ps) some.2)
    ∙ reading_from-long shape line made (text ++ some.0) some.1 (omega (arith, length-append text some.0, many))

-- the pieces behind the line `end`
abbrev pub behind_end : ℕ → List (List ℕ) → Reading
behind_end line [] = nothing_but (at_end line)
behind_end line (piece ∷ pieces) = after_end line piece pieces

behind_end_by : (d : Bool) (line byte : ℕ) (piece : List ℕ) (pieces : List (List ℕ)) → behind_end line (cond d ([] ∷ piece ∷ pieces) ((byte ∷ piece) ∷ pieces)) ≡ nothing_but (refused_at line AfterEnd)
behind_end_by true line byte piece pieces = refl
behind_end_by false line byte piece pieces = refl

pub behind_end-pieces_at : (line : ℕ) (text : List ℕ) → behind_end line (pieces_at 10 text) ≡ nothing_but (end_with line text)
unfolding pieces_at
behind_end-pieces_at line [] = refl
behind_end-pieces_at line (byte ∷ text) =
    let some = some_piece 10 text in
    ap (λ ps. behind_end line (with_byte_before 10 byte ps)) some.2
    ∙ behind_end_by (nat_eq byte 10) line byte some.0 some.1

line_reading-pieces : (shape : ShapeView) (line made : ℕ) (m : LineMeaning) (more piece : List ℕ) (pieces : List (List ℕ)) → pieces_at 10 more ≡ piece ∷ pieces → line_reading shape line made m piece pieces (reading_from shape (line + 1) (made + 1) (piece ∷ pieces)) ≡ reading_of_line shape line made m more
line_reading-pieces shape line made (turn_line_of turn) more piece pieces e =
    ap (λ ps. unless_refused line (refusal_of_turn shape made turn) (with_turn turn (reading_from shape (line + 1) (made + 1) ps))) (sym e)
line_reading-pieces shape line made end_line more piece pieces e = ap (λ ps. behind_end (line + 1) ps) (sym e) ∙ behind_end-pieces_at (line + 1) more
line_reading-pieces shape line made no_line more piece pieces e = refl

-- a whole line, and what follows
pub reading_on-line : (shape : ShapeView) (line made : ℕ) (text more : List ℕ) → Lacks 10 text → reading_on shape line made (text ++ 10 ∷ more) ≡ reading_of_line shape line made (meaning_of text) more
unfolding reading_from
reading_on-line shape line made text more lacks =
    let some = some_piece 10 more in
    ap (λ ps. reading_from shape line made ps) (pieces_at-append 10 text more refl lacks ∙ ap (λ ps. text ∷ ps) some.2)
    ∙ line_reading-pieces shape line made (meaning_of text) more some.0 some.1 some.2
