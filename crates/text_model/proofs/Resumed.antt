-- A text that is read part by part.
use Rattle.std.proofs.Common.{◌≡◌, ℕ, ◌+◌, ◌≤◌, Bool, true, false, not, cond, ◌&&◌, nat_eq, nat_lt, List, [], ◌∷◌, ◌++◌, length, Option, Some, None, refl, sym, ap, ◌∙◌, subst, length-append, add-zero, arith}
use Rattle.std.specs.List.{list_all}
use Rattle.text_model.specs.DdmTypes.declared.turns.Turn.{Turn}
use Rattle.text_model.specs.declared.ScheduleRefusal.{ScheduleRefusal}
use Rattle.text_model.specs.declared.ScheduleRefusal.TheVariants.{BadTurn}
use Rattle.text_model.specs.Schedule.{ShapeView, with_byte_before, pieces_at, meaning_of, LineMeaning, turn_line_of, end_line, no_line, refusal_of_turn, Standing, in_line, at_end, refused_at, Reading, nothing_but, with_turn, after_end, unless_refused, line_reading, reading_from, reading_on, last_piece, held_of, with_turns, resumed}
use Rattle.text_model.specs.Lines.{Lacks}
use Rattle.text_model.proofs.Pieces.{some_piece}
use Rattle.text_model.proofs.Parts.{in_front, in_front_nothing, pieces_at-front, behind_end, behind_end-pieces_at, reading_from-long}

-- ---- the pieces of two texts

-- pieces, and further ones that go on with the last of them
abbrev paste : List (List ℕ) → List (List ℕ) → List (List ℕ)
paste [] qs = qs
paste (p ∷ []) qs = in_front p qs
paste (p ∷ r ∷ ps) qs = p ∷ paste (r ∷ ps) qs

paste_one : (d : Bool) (byte : ℕ) (p q : List ℕ) (qs : List (List ℕ)) → cond d ([] ∷ (p ++ q) ∷ qs) ((byte ∷ (p ++ q)) ∷ qs) ≡ paste (cond d ([] ∷ p ∷ []) ((byte ∷ p) ∷ [])) (q ∷ qs)
paste_one true byte p q qs = refl
paste_one false byte p q qs = refl

paste_more : (d : Bool) (byte : ℕ) (p r : List ℕ) (ps qs : List (List ℕ)) → cond d ([] ∷ p ∷ paste (r ∷ ps) qs) ((byte ∷ p) ∷ paste (r ∷ ps) qs) ≡ paste (cond d ([] ∷ p ∷ r ∷ ps) ((byte ∷ p) ∷ r ∷ ps)) qs
paste_more true byte p r ps qs = refl
paste_more false byte p r ps qs = refl

with_byte_before-paste : (separator byte : ℕ) (p : List ℕ) (ps : List (List ℕ)) (q : List ℕ) (qs : List (List ℕ)) → with_byte_before separator byte (paste (p ∷ ps) (q ∷ qs)) ≡ paste (with_byte_before separator byte (p ∷ ps)) (q ∷ qs)
with_byte_before-paste separator byte p [] q qs = paste_one (nat_eq byte separator) byte p q qs
with_byte_before-paste separator byte p (r ∷ ps) q qs = paste_more (nat_eq byte separator) byte p r ps (q ∷ qs)

pieces_at-both : (separator : ℕ) (xs ys : List ℕ) → pieces_at separator (xs ++ ys) ≡ paste (pieces_at separator xs) (pieces_at separator ys)
unfolding pieces_at
pieces_at-both separator [] ys = let some = some_piece separator ys in in_front_nothing (pieces_at separator ys) some.0 some.1 some.2
pieces_at-both separator (byte ∷ xs) ys =
    let first = some_piece separator xs in
    let second = some_piece separator ys in
    ap (λ ps. with_byte_before separator byte ps) (pieces_at-both separator xs ys ∙ ap (λ ps. paste ps (pieces_at separator ys)) first.2 ∙ ap (λ qs. paste (first.0 ∷ first.1) qs) second.2)
    ∙ with_byte_before-paste separator byte first.0 first.1 second.0 second.1
    ∙ ap (λ ps. paste (with_byte_before separator byte ps) (second.0 ∷ second.1)) (sym first.2)
    ∙ ap (λ qs. paste (with_byte_before separator byte (pieces_at separator xs)) qs) (sym second.2)

-- ---- what they make

-- the reading of the first pieces, with further pieces behind them
abbrev resumed_pieces : ShapeView → ℕ → List ℕ → List (List ℕ) → List Turn → Standing → Reading
resumed_pieces shape made held qs turns (in_line line) = with_turns turns (reading_from shape line (made + length turns) (in_front held qs))
resumed_pieces shape made held qs turns (at_end line) = record { turns = turns; standing = (behind_end line qs).standing }
resumed_pieces shape made held qs turns (refused_at line refusal) = record { turns = turns; standing = refused_at line refusal }

-- the same, of a reading
abbrev on_reading : ShapeView → ℕ → List ℕ → List (List ℕ) → Reading → Reading
on_reading shape made held qs reading = resumed_pieces shape made held qs reading.turns reading.standing

open_by : (d : Bool) (shape : ShapeView) (line made : ℕ) (p q : List ℕ) (qs : List (List ℕ)) → nat_lt 24 (length p) ≡ d → reading_from shape line made ((p ++ q) ∷ qs) ≡ on_reading shape made p (q ∷ qs) (nothing_but (cond d (refused_at line BadTurn) (in_line line)))
open_by true shape line made p q qs many = reading_from-long shape line made (p ++ q) qs (grind (arith, length-append p q))
open_by false shape line made p q qs few = ap (λ (n : ℕ). reading_from shape line n ((p ++ q) ∷ qs)) (sym (add-zero made))

with_turn-resumed : (shape : ShapeView) (made : ℕ) (held : List ℕ) (qs : List (List ℕ)) (turn : Turn) (turns : List Turn) (standing : Standing) → with_turn turn (resumed_pieces shape (made + 1) held qs turns standing) ≡ resumed_pieces shape made held qs (turn ∷ turns) standing
with_turn-resumed shape made held qs turn turns (in_line line) =
    let same : (made + 1) + length turns ≡ made + length (turn ∷ turns) = omega arith in
    ap (λ (n : ℕ). with_turns (turn ∷ turns) (reading_from shape line n (in_front held qs))) same
with_turn-resumed shape made held qs turn turns (at_end line) = refl
with_turn-resumed shape made held qs turn turns (refused_at line refusal) = refl

-- a line that says this, with the pieces behind it
abbrev reading_of_pieces : ShapeView → ℕ → ℕ → LineMeaning → List (List ℕ) → Reading
reading_of_pieces shape line made (turn_line_of turn) pieces = unless_refused line (refusal_of_turn shape made turn) (with_turn turn (reading_from shape (line + 1) (made + 1) pieces))
reading_of_pieces shape line made end_line pieces = behind_end (line + 1) pieces
reading_of_pieces shape line made no_line pieces = nothing_but (refused_at line BadTurn)

line_reading-of_pieces : (shape : ShapeView) (line made : ℕ) (m : LineMeaning) (p : List ℕ) (ps : List (List ℕ)) → line_reading shape line made m p ps (reading_from shape (line + 1) (made + 1) (p ∷ ps)) ≡ reading_of_pieces shape line made m (p ∷ ps)
line_reading-of_pieces shape line made (turn_line_of turn) p ps = refl
line_reading-of_pieces shape line made end_line p ps = refl
line_reading-of_pieces shape line made no_line p ps = refl

some_paste : (p : List ℕ) (ps : List (List ℕ)) (q : List ℕ) (qs : List (List ℕ)) → (f : List ℕ) × (fs : List (List ℕ)) × (paste (p ∷ ps) (q ∷ qs) ≡ f ∷ fs)
some_paste p [] q qs = (p ++ q, qs, refl)
some_paste p (r ∷ ps) q qs = (p, paste (r ∷ ps) (q ∷ qs), refl)

-- a piece before others
reading_from-more : (shape : ShapeView) (line made : ℕ) (piece : List ℕ) (pieces : List (List ℕ)) (f : List ℕ) (fs : List (List ℕ)) → pieces ≡ f ∷ fs → reading_from shape line made (piece ∷ pieces) ≡ reading_of_pieces shape line made (meaning_of piece) pieces
unfolding reading_from
reading_from-more shape line made piece pieces f fs e =
    ap (λ ps. reading_from shape line made (piece ∷ ps)) e
    ∙ line_reading-of_pieces shape line made (meaning_of piece) f fs
    ∙ ap (λ ps. reading_of_pieces shape line made (meaning_of piece) ps) (sym e)

-- behind the end nothing may come
end_then : (shape : ShapeView) (line made : ℕ) (p : List ℕ) (ps : List (List ℕ)) (q : List ℕ) (qs : List (List ℕ)) → behind_end line (paste (p ∷ ps) (q ∷ qs)) ≡ on_reading shape made (last_piece (p ∷ ps)) (q ∷ qs) (behind_end line (p ∷ ps))
end_then shape line made [] [] [] [] = refl
end_then shape line made [] [] [] (r ∷ qs) = refl
end_then shape line made [] [] (byte ∷ q) qs = refl
end_then shape line made [] (r ∷ []) q qs = refl
end_then shape line made [] (r ∷ s ∷ ps) q qs = refl
end_then shape line made (byte ∷ p) [] q qs = refl
end_then shape line made (byte ∷ p) (r ∷ ps) q qs = refl

turn_then : (shape : ShapeView) (line made : ℕ) (turn : Turn) (o : Option ScheduleRefusal) (held : List ℕ) (qs : List (List ℕ)) (more whole : Reading) → whole ≡ on_reading shape (made + 1) held qs more → unless_refused line o (with_turn turn whole) ≡ on_reading shape made held qs (unless_refused line o (with_turn turn more))
turn_then shape line made turn None held qs more whole e = ap (λ r. with_turn turn r) e ∙ with_turn-resumed shape made held qs turn more.turns more.standing
turn_then shape line made turn (Some refusal) held qs more whole e = refl

line_then : (shape : ShapeView) (line made : ℕ) (m : LineMeaning) (p : List ℕ) (ps : List (List ℕ)) (q : List ℕ) (qs : List (List ℕ)) → reading_from shape (line + 1) (made + 1) (paste (p ∷ ps) (q ∷ qs)) ≡ on_reading shape (made + 1) (last_piece (p ∷ ps)) (q ∷ qs) (reading_from shape (line + 1) (made + 1) (p ∷ ps)) → reading_of_pieces shape line made m (paste (p ∷ ps) (q ∷ qs)) ≡ on_reading shape made (last_piece (p ∷ ps)) (q ∷ qs) (reading_of_pieces shape line made m (p ∷ ps))
line_then shape line made (turn_line_of turn) p ps q qs e =
    turn_then shape line made turn (refusal_of_turn shape made turn) (last_piece (p ∷ ps)) (q ∷ qs) (reading_from shape (line + 1) (made + 1) (p ∷ ps)) (reading_from shape (line + 1) (made + 1) (paste (p ∷ ps) (q ∷ qs))) e
line_then shape line made end_line p ps q qs e = end_then shape (line + 1) made p ps q qs
line_then shape line made no_line p ps q qs e = refl

reading_from-paste : (shape : ShapeView) (line made : ℕ) (p : List ℕ) (ps : List (List ℕ)) (q : List ℕ) (qs : List (List ℕ)) → reading_from shape line made (paste (p ∷ ps) (q ∷ qs)) ≡ on_reading shape made (last_piece (p ∷ ps)) (q ∷ qs) (reading_from shape line made (p ∷ ps))
unfolding reading_from
reading_from-paste shape line made p [] q qs = open_by (nat_lt 24 (length p)) shape line made p q qs refl
reading_from-paste shape line made p (r ∷ ps) q qs =
    let some = some_paste r ps q qs in
    reading_from-more shape line made p (paste (r ∷ ps) (q ∷ qs)) some.0 some.1 some.2
    ∙ line_then shape line made (meaning_of p) r ps q qs (reading_from-paste shape (line + 1) (made + 1) r ps q qs)
    ∙ ap (λ reading. on_reading shape made (last_piece (r ∷ ps)) (q ∷ qs) reading) (sym (line_reading-of_pieces shape line made (meaning_of p) r ps))

-- ---- the last line

Lacks-last_by : (d : Bool) (separator byte : ℕ) (piece : List ℕ) (pieces : List (List ℕ)) → nat_eq byte separator ≡ d → Lacks separator (last_piece (piece ∷ pieces)) → Lacks separator (last_piece (cond d ([] ∷ piece ∷ pieces) ((byte ∷ piece) ∷ pieces)))
Lacks-last_by true separator byte piece pieces same lacks = lacks
Lacks-last_by false separator byte piece [] other lacks = ap (λ d. not d && list_all (λ b. not (nat_eq b separator)) piece) other ∙ lacks
Lacks-last_by false separator byte piece (next ∷ pieces) other lacks = lacks

Lacks-last_piece : (separator : ℕ) (text : List ℕ) → Lacks separator (last_piece (pieces_at separator text))
unfolding pieces_at
Lacks-last_piece separator [] = refl
Lacks-last_piece separator (byte ∷ text) =
    let some = some_piece separator text in
    let P : List (List ℕ) → Type 0 = λ ps. Lacks separator (last_piece ps) in
    let Q : List (List ℕ) → Type 0 = λ ps. Lacks separator (last_piece (with_byte_before separator byte ps)) in
    subst Q (sym some.2) (Lacks-last_by (nat_eq byte separator) separator byte some.0 some.1 refl (subst P some.2 (Lacks-last_piece separator text)))

-- the bytes of the last line have no line feed
pub Lacks-held_of : (text : List ℕ) → Lacks 10 (held_of text)
unfolding held_of
Lacks-held_of text = Lacks-last_piece 10 text

resumed_pieces-resumed : (shape : ShapeView) (made : ℕ) (held more : List ℕ) (turns : List Turn) (standing : Standing) → Lacks 10 held → resumed_pieces shape made held (pieces_at 10 more) turns standing ≡ resumed shape made held more turns standing
unfolding resumed
resumed_pieces-resumed shape made held more turns (in_line line) lacks = ap (λ ps. with_turns turns (reading_from shape line (made + length turns) ps)) (sym (pieces_at-front 10 held more lacks))
resumed_pieces-resumed shape made held more turns (at_end line) lacks = let state : Reading → Reading = λ r. record { turns = turns; standing = r.standing } in ap state (behind_end-pieces_at line more)
resumed_pieces-resumed shape made held more turns (refused_at line refusal) lacks = refl

-- a text with more bytes behind it is read as the text, and then they with its last line
pub reading_on-append : (shape : ShapeView) (line made : ℕ) (text more : List ℕ) → reading_on shape line made (text ++ more) ≡ (let reading = reading_on shape line made text in resumed shape made (held_of text) more reading.turns reading.standing)
unfolding held_of
reading_on-append shape line made text more =
    let first = some_piece 10 text in
    let second = some_piece 10 more in
    let state : List (List ℕ) → List (List ℕ) → Reading = λ ps qs. on_reading shape made (last_piece ps) qs (reading_from shape line made ps) in
    ap (λ ps. reading_from shape line made ps) (pieces_at-both 10 text more ∙ ap (λ ps. paste ps (pieces_at 10 more)) first.2 ∙ ap (λ qs. paste (first.0 ∷ first.1) qs) second.2)
    ∙ reading_from-paste shape line made first.0 first.1 second.0 second.1
    ∙ ap (λ ps. state ps (second.0 ∷ second.1)) (sym first.2)
    ∙ ap (λ qs. state (pieces_at 10 text) qs) (sym second.2)
    ∙ (let reading = reading_on shape line made text in resumed_pieces-resumed shape made (last_piece (pieces_at 10 text)) more reading.turns reading.standing (Lacks-last_piece 10 text))

-- ---- how much a reader must hold

short_by : (d : Bool) (line l : ℕ) (piece : List ℕ) → nat_lt 24 (length piece) ≡ d → cond d (refused_at line BadTurn) (in_line line) ≡ in_line l → length piece ≤ 24
short_by true line l piece many e = absurd (cc e)
short_by false line l piece few e = grind arith

not_behind_end : (line l : ℕ) (p : List ℕ) (ps : List (List ℕ)) → (after_end line p ps).standing ≡ in_line l → ⊥
not_behind_end line l [] [] e = cc e
not_behind_end line l [] (r ∷ ps) e = cc e
not_behind_end line l (byte ∷ p) ps e = cc e

not_refused : (line l : ℕ) (o : Option ScheduleRefusal) (more : Reading) → (unless_refused line o more).standing ≡ in_line l → more.standing ≡ in_line l
not_refused line l None more e = e
not_refused line l (Some refusal) more e = absurd (cc e)

open_behind : (shape : ShapeView) (line made l : ℕ) (m : LineMeaning) (p : List ℕ) (ps : List (List ℕ)) (more : Reading) → (line_reading shape line made m p ps more).standing ≡ in_line l → more.standing ≡ in_line l
open_behind shape line made l (turn_line_of turn) p ps more e = not_refused line l (refusal_of_turn shape made turn) (with_turn turn more) e
open_behind shape line made l end_line p ps more e = absurd (not_behind_end (line + 1) l p ps e)
open_behind shape line made l no_line p ps more e = absurd (cc e)

length-last_piece : (shape : ShapeView) (line made l : ℕ) (p : List ℕ) (ps : List (List ℕ)) → (reading_from shape line made (p ∷ ps)).standing ≡ in_line l → length (last_piece (p ∷ ps)) ≤ 24
unfolding reading_from
length-last_piece shape line made l p [] e = short_by (nat_lt 24 (length p)) line l p refl e
length-last_piece shape line made l p (r ∷ ps) e =
    length-last_piece shape (line + 1) (made + 1) l r ps (open_behind shape line made l (meaning_of p) r ps (reading_from shape (line + 1) (made + 1) (r ∷ ps)) e)

-- in a line that isn't whole there are at most 24 bytes
pub length-held_of : (shape : ShapeView) (line made l : ℕ) (text : List ℕ) → (reading_on shape line made text).standing ≡ in_line l → length (held_of text) ≤ 24
unfolding held_of
length-held_of shape line made l text e =
    let some = some_piece 10 text in
    let P : List (List ℕ) → Type 0 = λ ps. (reading_from shape line made ps).standing ≡ in_line l in
    let Q : List (List ℕ) → Type 0 = λ ps. length (last_piece ps) ≤ 24 in
    subst Q (sym some.2) (length-last_piece shape line made l some.0 some.1 (subst P some.2 e))
