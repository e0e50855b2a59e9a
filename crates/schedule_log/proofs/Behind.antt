-- Lines that are read in two parts: the bytes that are held, and those behind them where they lie.
-- Letters: lines and first are as many lines and turns as there were before the text; front and back are what the lines of the held
-- bytes and those behind them came to.
use Rattle.std.proofs.Common.{◌≡◌, ℕ, zero, suc, ◌+◌, ◌-◌, ◌<◌, nat_eq, List, [], ◌∷◌, ◌++◌, length, take, drop, get_or, Some, refl, sym, ap, ◌∙◌, subst, append_assoc, length-append, arith}
use Rattle.std.specs.Prelude.{position}
use Rattle.schedule_log.specs.DdmTypes.declared.turns.Turn.{Turn}
use Rattle.text_model.specs.declared.ScheduleRefusal.{ScheduleRefusal}
use Rattle.text_model.specs.declared.ScheduleRefusal.TheVariants.{AfterEnd}
use Rattle.text_model.specs.Schedule.{ShapeView, refused_at, Reading, reading_on, held_of, with_turns, resumed}
use Rattle.text_model.proofs.Resumed.{reading_on-append}
use Rattle.schedule_log.specs.declared.standing.Standing.{Standing as Place}
use Rattle.schedule_log.specs.declared.standing.Standing.TheVariants.{InLine, AtEnd, Refused}
use Rattle.schedule_log.specs.declared.reading.Lines.{Lines}
use Rattle.schedule_log.specs.Standings.{standing_of}
use Rattle.schedule_log.specs.Reader.{KeepsHeld, LinesRead}
use Rattle.schedule_log.proofs.Cuts.{cut_of, tail_is}
use Rattle.schedule_log.proofs.FirstLines.{held_all}
use Rattle.schedule_log.proofs.Cuttings.{held_again, line_ends}

-- ---- what is put behind the held bytes

take_with : (text : List ℕ) (i : ℕ) → i < length text → take (i + 1) text ≡ take i text ++ get_or text i 0 ∷ []
take_with [] i inside = absurd (omega arith)
take_with (byte ∷ text) zero inside = refl
take_with (byte ∷ text) (suc i) inside = ap (λ n. take n (byte ∷ text)) (shift i) ∙ ap (λ more. byte ∷ more) (take_with text i (omega arith)) where
  shift : (n : ℕ) → suc n + 1 ≡ suc (n + 1)
  shift n = omega arith

-- nothing is left of the held bytes with those up to a line feed and with it
pub first_line_ends : (held piece : List ℕ) (i : ℕ) → position (λ byte. nat_eq byte 10) piece ≡ Some i → held_of (held ++ take (i + 1) piece) ≡ []
first_line_ends held piece i found =
    let cut = cut_of 10 piece i found in
    ap (λ t. held_of (held ++ t)) (take_with piece i cut.inside ∙ ap (λ b. take i piece ++ b ∷ []) cut.here)
    ∙ ap held_of (sym (append_assoc held (take i piece) (10 ∷ [])))
    ∙ line_ends (held ++ take i piece)

pub nothing_held : (held : List ℕ) → length held ≡ 0 → held_of (held ++ []) ≡ []
nothing_held [] none = held_all [] refl
nothing_held (byte ∷ held) none = absurd (omega (arith, none))

-- ---- what is held then

-- what is left of both, where so many of the bytes behind are passed over before they are held
pub rest_held : (held behind : List ℕ) (count : ℕ) → drop (count - (count - length held)) (held ++ drop (count - length held) behind) ≡ drop count (held ++ behind)
rest_held [] behind count = ap (λ n. drop n (drop (count - 0) behind)) (none count) ∙ ap (λ n. drop n behind) (all count) where
  none : (n : ℕ) → n - (n - 0) ≡ 0
  none n = omega arith

  all : (n : ℕ) → n - 0 ≡ n
  all n = omega arith
rest_held (byte ∷ held) behind zero = ap (λ n. drop n (byte ∷ (held ++ drop (0 - suc (length held)) behind))) (none (suc (length held))) ∙ ap (λ n. byte ∷ (held ++ drop n behind)) (less (suc (length held))) where
  none : (n : ℕ) → 0 - (0 - n) ≡ 0
  none n = omega arith

  less : (n : ℕ) → 0 - n ≡ 0
  less n = omega arith
rest_held (byte ∷ held) behind (suc n) =
    ap (λ k. drop (suc n - k) (byte ∷ (held ++ drop k behind))) (both n (length held))
    ∙ ap (λ k. drop k (byte ∷ (held ++ drop (n - length held) behind))) (less n (length held))
    ∙ rest_held held behind n
  where
    both : (n m : ℕ) → suc n - suc m ≡ n - m
    both n m = omega arith

    less : (n m : ℕ) → suc n - (n - m) ≡ suc (n - (n - m))
    less n m = omega arith

-- the same, of what is put behind the held bytes as a slice, and taken away from the front then
pub rest_is : (held behind both new : List ℕ) (count passed : ℕ) → passed ≡ count - length held → both ≡ held ++ take (length behind - passed) (drop passed behind) → new ≡ drop (count - passed) both → new ≡ drop count (held ++ behind)
rest_is held behind both new count passed many is left =
    left
    ∙ ap (λ t. drop (count - passed) t) (is ∙ ap (λ t. held ++ t) (tail_is behind passed))
    ∙ ap (λ n. drop (count - n) (held ++ drop n behind)) many
    ∙ rest_held held behind count

drop_past : (xs ys : List ℕ) (k : ℕ) → drop (length xs + k) (xs ++ ys) ≡ drop k ys
drop_past [] ys k = ap (λ n. drop n ys) (none k) where
  none : (n : ℕ) → 0 + n ≡ n
  none n = omega arith
drop_past (x ∷ xs) ys k = ap (λ n. drop n (x ∷ (xs ++ ys))) (shift (length xs) k) ∙ drop_past xs ys k where
  shift : (n m : ℕ) → suc n + m ≡ suc (n + m)
  shift n m = omega arith

keeps : (place : Place) (text rest text_now rest_now : List ℕ) → held_of text_now ≡ held_of text → rest_now ≡ rest → KeepsHeld place text rest → KeepsHeld place text_now rest_now
keeps InLine text rest text_now rest_now same is held = same ∙ held ∙ sym is
keeps AtEnd text rest text_now rest_now same is held = tt
keeps (Refused line refusal) text rest text_now rest_now same is held = tt

-- ---- the lines of both

-- the held lines are whole
pub lines_both : (shape : ShapeView) (lines first : ℕ) (held behind : List ℕ) (before between after : List Turn) (front back : Lines) → LinesRead shape lines first held before between front → held_of held ≡ [] → front.standing ≡ InLine
    → LinesRead shape front.lines front.made behind between after back
    → LinesRead shape lines first (held ++ behind) before after (record { made = back.made; lines = back.lines; kept = length held + back.kept; standing = back.standing })
unfolding resumed
lines_both shape lines first held behind before between after front back read nothing within more =
    let r = reading_on shape (lines + 1) first held in
    let s = reading_on shape (front.lines + 1) front.made behind in
    let both : reading_on shape (lines + 1) first (held ++ behind) ≡ with_turns r.turns s =
    reading_on-append shape (lines + 1) first held behind
    ∙ ap (λ h. resumed shape first h behind r.turns r.standing) nothing
    ∙ ap (λ p. resumed shape first [] behind r.turns p) (sym read.standing ∙ ap (λ p. standing_of front.lines p) within)
    ∙ ap (λ (n : ℕ). with_turns r.turns (reading_on shape (front.lines + 1) n behind)) (sym read.count) in
    let turns : (reading_on shape (lines + 1) first (held ++ behind)).turns ≡ r.turns ++ s.turns = ap (λ (g : Reading). g.turns) both in
    let count : length (reading_on shape (lines + 1) first (held ++ behind)).turns ≡ length r.turns + length s.turns = ap (λ (ts : List Turn). length ts) turns ∙ length-append r.turns s.turns in
    let again : held_of (held ++ behind) ≡ held_of behind = sym (held_again (length held) held behind (omega arith)) ∙ ap (λ t. held_of (t ++ behind)) nothing in
    record {
      turns = more.turns ∙ ap (λ (ts : List Turn). ts ++ s.turns) read.turns ∙ append_assoc before r.turns s.turns ∙ ap (λ (ts : List Turn). before ++ ts) (sym turns);
      standing = more.standing ∙ ap (λ (g : Reading). g.standing) (sym both);
      count = omega (arith, count, more.count, read.count);
      count_lines = omega (arith, count, more.count_lines, read.count_lines);
      held = keeps back.standing behind (drop back.kept behind) (held ++ behind) (drop (length held + back.kept) (held ++ behind)) again (drop_past held behind back.kept) more.held;
      within = omega (arith, more.within, length-append held behind);
      of_text = more.of_text;
      few = more.few;
    }

-- the held lines are refused, or what comes behind them
lines_stay : (shape : ShapeView) (lines first : ℕ) (held behind : List ℕ) (before after : List Turn) (front : Lines) (line : ℕ) (refusal : ScheduleRefusal) → LinesRead shape lines first held before after front
    → reading_on shape (lines + 1) first (held ++ behind) ≡ record { turns = (reading_on shape (lines + 1) first held).turns; standing = refused_at line refusal }
    → LinesRead shape lines first (held ++ behind) before after (record { made = front.made; lines = front.lines; kept = front.kept; standing = Refused line refusal })
lines_stay shape lines first held behind before after front line refusal read both =
    let turns : (reading_on shape (lines + 1) first (held ++ behind)).turns ≡ (reading_on shape (lines + 1) first held).turns = ap (λ (g : Reading). g.turns) both in
    let count : length (reading_on shape (lines + 1) first (held ++ behind)).turns ≡ length (reading_on shape (lines + 1) first held).turns = ap (λ (ts : List Turn). length ts) turns in
    record {
      turns = read.turns ∙ ap (λ (ts : List Turn). before ++ ts) (sym turns);
      standing = ap (λ (g : Reading). g.standing) (sym both);
      count = omega (arith, count, read.count);
      count_lines = omega (arith, count, read.count_lines);
      held = tt;
      within = omega (arith, read.within, length-append held behind);
      of_text = read.of_text;
      few = read.few;
    }

pub lines_refused : (shape : ShapeView) (lines first : ℕ) (held behind : List ℕ) (before after : List Turn) (front : Lines) (line : ℕ) (refusal : ScheduleRefusal) → LinesRead shape lines first held before after front → front.standing ≡ Refused line refusal
    → LinesRead shape lines first (held ++ behind) before after front
unfolding resumed
lines_refused shape lines first held behind before after front line refusal read refused =
    let r = reading_on shape (lines + 1) first held in
    subst (λ p. LinesRead shape lines first (held ++ behind) before after (record { made = front.made; lines = front.lines; kept = front.kept; standing = p })) (sym refused)
    (lines_stay shape lines first held behind before after front line refusal read
    (reading_on-append shape (lines + 1) first held behind ∙ ap (λ p. resumed shape first (held_of held) behind r.turns p) (sym read.standing ∙ ap (λ p. standing_of front.lines p) refused)))

-- there is more behind the end
pub lines_ended : (shape : ShapeView) (lines first : ℕ) (held behind : List ℕ) (before after : List Turn) (front : Lines) → LinesRead shape lines first held before after front → front.standing ≡ AtEnd → 0 < length behind
    → LinesRead shape lines first (held ++ behind) before after (record { made = front.made; lines = front.lines; kept = front.kept; standing = Refused (front.lines + 2) AfterEnd })
unfolding resumed
lines_ended shape lines first held [] before after front read ended some = absurd (omega (arith, some))
lines_ended shape lines first held (byte ∷ behind) before after front read ended some =
    let r = reading_on shape (lines + 1) first held in
    let two : front.lines + 1 + 1 ≡ front.lines + 2 = omega arith in
    lines_stay shape lines first held (byte ∷ behind) before after front (front.lines + 2) AfterEnd read
    (reading_on-append shape (lines + 1) first held (byte ∷ behind)
    ∙ ap (λ p. resumed shape first (held_of held) (byte ∷ behind) r.turns p) (sym read.standing ∙ ap (λ p. standing_of front.lines p) ended)
    ∙ ap (λ (n : ℕ). record { turns = r.turns; standing = refused_at n AfterEnd }) two)
