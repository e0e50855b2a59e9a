-- A text in pieces gives what the whole text gives.
use Rattle.std.proofs.Common.{◌≡◌, ℕ, zero, suc, ◌+◌, ◌<◌, ◌≤◌, nat_eq, Option, Some, None, take, drop, arith, List, [], ◌∷◌, ◌++◌, length, Ok, Err, refl, sym, ap, ◌∙◌, add-zero, length-append, append_assoc}
use Rattle.std.proofs.lemmas.List.{append-nil, length-drop}
use Rattle.std.specs.Prelude.{position}
use Rattle.schedule_log.specs.DdmTypes.declared.turns.Turn.{Turn}
use Rattle.text_model.specs.declared.ScheduleRefusal.{ScheduleRefusal}
use Rattle.text_model.specs.Schedule.{ShapeView, Standing, in_line, at_end, refused_at, Reading, pieces_at, reading_from, reading_of, reading_on, held_of, with_turns, resumed, end_with, schedule_of, finished}
use Rattle.text_model.proofs.Resumed.{reading_on-append}
use Rattle.schedule_log.proofs.Cuts.{cut_of, uncut_of}
use Rattle.schedule_log.proofs.FirstLines.{held_all, held_line}
use Rattle.schedule_log.specs.Standings.{held_in}
use Rattle.schedule_log.specs.Reader.{ReaderView, begun_behind, given, fed, finish_of}
use Rattle.schedule_log.specs.Pieces.{reader_after, turns_of}

-- what a reading gives with more bytes behind it, and the same without its turns
resumed_apart : (shape : ShapeView) (made : ℕ) (text more : List ℕ) (turns : List Turn) (standing : Standing) → resumed shape made (held_of text) more turns standing ≡ with_turns turns (resumed shape (made + length turns) (held_in standing text) more [] standing)
unfolding resumed
resumed_apart shape made text more turns (in_line line) = ap (λ (n : ℕ). with_turns turns (reading_on shape line n (held_of text ++ more))) (sym (add-zero (made + length turns)))
resumed_apart shape made text more turns (at_end line) = ap (λ (ts : List Turn). record { turns = ts; standing = end_with line more }) (sym (append-nil turns))
resumed_apart shape made text more turns (refused_at line refusal) = ap (λ (ts : List Turn). record { turns = ts; standing = refused_at line refusal }) (sym (append-nil turns))

whole_text : (shape : ShapeView) (made : ℕ) (text more : List ℕ) → reading_of shape made (text ++ more) ≡ with_turns (turns_of shape made text) (given shape (reader_after shape made text) more)
unfolding reading_of
whole_text shape made text more =
    let r = reading_on shape 1 made text in
    reading_on-append shape 1 made text more ∙ resumed_apart shape made text more r.turns r.standing

pub turns_cut : (shape : ShapeView) (made : ℕ) (text piece : List ℕ) → turns_of shape made text ++ (given shape (reader_after shape made text) piece).turns ≡ turns_of shape made (text ++ piece)
turns_cut shape made text piece = ap (λ (r : Reading). r.turns) (sym (whole_text shape made text piece))

pub no_piece : (shape : ShapeView) (made : ℕ) → begun_behind made ≡ reader_after shape made []
unfolding reading_of reading_from pieces_at held_of
no_piece shape made = ap (λ (n : ℕ). record { made = n; lines = 0; held = []; standing = in_line 1 }) (sym (add-zero made))

pub finish_accepts : (shape : ShapeView) (made : ℕ) (text : List ℕ) → finish_of (reader_after shape made text).standing ≡ Ok tt → schedule_of shape made text ≡ Ok (turns_of shape made text)
unfolding schedule_of
finish_accepts shape made text e = go (reading_of shape made text).turns (reading_of shape made text).standing e where
  go : (turns : List Turn) (standing : Standing) → finish_of standing ≡ Ok tt → finished turns standing ≡ Ok turns
  go turns (in_line line) e = absurd (cc e)
  go turns (at_end line) e = refl
  go turns (refused_at line refusal) e = absurd (cc e)

pub finish_refuses : (shape : ShapeView) (made : ℕ) (text : List ℕ) (line : ℕ) (refusal : ScheduleRefusal) → finish_of (reader_after shape made text).standing ≡ Err (line, refusal) → schedule_of shape made text ≡ Err (line, refusal)
unfolding schedule_of
finish_refuses shape made text line refusal e = go (reading_of shape made text).turns (reading_of shape made text).standing e where
  go : (turns : List Turn) (standing : Standing) → finish_of standing ≡ Err (line, refusal) → finished turns standing ≡ Err (line, refusal)
  go turns (in_line n) e = cc e
  go turns (at_end n) e = absurd (cc e)
  go turns (refused_at n r) e = cc e

-- the last line of a text with more behind it is that of its last line with more behind it
abbrev pub HeldAgain : List ℕ → List ℕ → Type 0
HeldAgain piece text = held_of (held_of text ++ piece) ≡ held_of (text ++ piece)

held_behind_line : (text piece : List ℕ) → ((t : List ℕ) → length t < length text → HeldAgain piece t) → (o : Option ℕ) → position (λ byte. nat_eq byte 10) text ≡ o → HeldAgain piece text
held_behind_line text piece shorter None none = ap (λ t. held_of (t ++ piece)) (held_all text (uncut_of 10 text none))
held_behind_line text piece shorter (Some i) found =
    let cut = cut_of 10 text i found in
    let front = take i text in
    let behind = drop (i + 1) text in
    ap (λ t. held_of (t ++ piece)) (ap held_of cut.is ∙ held_line front behind cut.lacks)
    ∙ shorter behind (omega (arith, cut.inside, length-drop (i + 1) text))
    ∙ sym (held_line front (behind ++ piece) cut.lacks)
    ∙ sym (ap held_of (append_assoc front (10 ∷ behind) piece))
    ∙ ap (λ t. held_of (t ++ piece)) (sym cut.is)

pub held_again : (n : ℕ) (text piece : List ℕ) → length text ≤ n → HeldAgain piece text
held_again zero text piece few = held_behind_line text piece (λ t h. absurd (omega (arith, few, h))) (position (λ byte. nat_eq byte 10) text) refl
held_again (suc n) text piece few = held_behind_line text piece (λ t h. held_again n t piece (omega (arith, few, h))) (position (λ byte. nat_eq byte 10) text) refl

-- the bytes held: those of the whole text's last line
held_cut : (shape : ShapeView) (made : ℕ) (text piece : List ℕ) → held_in (given shape (reader_after shape made text) piece).standing (held_in (reading_of shape made text).standing text ++ piece) ≡ held_in (given shape (reader_after shape made text) piece).standing (text ++ piece)
unfolding resumed
held_cut shape made text piece = go (made + length (turns_of shape made text)) (reading_of shape made text).standing where
  by : (standing : Standing) → held_in standing (held_of text ++ piece) ≡ held_in standing (text ++ piece)
  by (in_line line) = held_again (length text) text piece (omega arith)
  by (at_end line) = refl
  by (refused_at line refusal) = refl

  ended : (line : ℕ) (more : List ℕ) → held_in (end_with line more) piece ≡ held_in (end_with line more) (text ++ piece)
  ended line [] = refl
  ended line (byte ∷ more) = refl

  go : (n : ℕ) (standing : Standing) → held_in (resumed shape n (held_in standing text) piece [] standing).standing (held_in standing text ++ piece) ≡ held_in (resumed shape n (held_in standing text) piece [] standing).standing (text ++ piece)
  go n (in_line line) = by (reading_on shape line (n + 0) (held_of text ++ piece)).standing
  go n (at_end line) = ended line piece
  go n (refused_at line refusal) = refl

pub reader_cut : (shape : ShapeView) (made : ℕ) (text piece : List ℕ) → fed shape (reader_after shape made text) piece ≡ reader_after shape made (text ++ piece)
reader_cut shape made text piece =
    let g = given shape (reader_after shape made text) piece in
    let turns = turns_of shape made text in
    let view : ℕ → ℕ → List ℕ → Standing → ReaderView = λ made lines held standing. record { made = made; lines = lines; held = held; standing = standing } in
    let whole = whole_text shape made text piece in
    let count : length turns + length g.turns ≡ length (turns ++ g.turns) = sym (length-append turns g.turns) in
    let sum : made + length turns + length g.turns ≡ made + length (turns ++ g.turns) = omega (arith, count) in
    let kept = held_in g.standing (held_in (reading_of shape made text).standing text ++ piece) in
    ap (λ (n : ℕ). view n (length turns + length g.turns) kept g.standing) sum
    ∙ ap (λ (n : ℕ). view (made + length (turns ++ g.turns)) n kept g.standing) count
    ∙ ap (λ h. view (made + length (turns ++ g.turns)) (length (turns ++ g.turns)) h g.standing) (held_cut shape made text piece)
    ∙ ap (λ (r : Reading). view (made + length r.turns) (length r.turns) (held_in r.standing (text ++ piece)) r.standing) (sym whole)

-- nothing is held of a text that ends with a line feed
ends_by : (text : List ℕ) → ((t : List ℕ) → length t < length text → held_of (t ++ 10 ∷ []) ≡ []) → (o : Option ℕ) → position (λ byte. nat_eq byte 10) text ≡ o → held_of (text ++ 10 ∷ []) ≡ []
ends_by text shorter None none = held_line text [] (uncut_of 10 text none) ∙ held_all [] refl
ends_by text shorter (Some i) found =
    let cut = cut_of 10 text i found in
    let front = take i text in
    let behind = drop (i + 1) text in
    ap (λ t. held_of (t ++ 10 ∷ [])) cut.is
    ∙ ap held_of (append_assoc front (10 ∷ behind) (10 ∷ []))
    ∙ held_line front (behind ++ 10 ∷ []) cut.lacks
    ∙ shorter behind (omega (arith, cut.inside, length-drop (i + 1) text))

ends_few : (n : ℕ) (text : List ℕ) → length text ≤ n → held_of (text ++ 10 ∷ []) ≡ []
ends_few zero text few = ends_by text (λ t h. absurd (omega (arith, few, h))) (position (λ byte. nat_eq byte 10) text) refl
ends_few (suc n) text few = ends_by text (λ t h. ends_few n t (omega (arith, few, h))) (position (λ byte. nat_eq byte 10) text) refl

pub line_ends : (text : List ℕ) → held_of (text ++ 10 ∷ []) ≡ []
line_ends text = ends_few (length text) text (omega arith)
