-- What a reader does with more bytes, by how far the text has come.
use Rattle.std.proofs.Common.{◌≡◌, ℕ, ◌+◌, ◌<◌, List, [], ◌∷◌, ◌++◌, length, drop, Result, Ok, Err, refl, sym, ap, ◌∙◌, subst, add-zero, arith}
use Rattle.std.proofs.lemmas.List.{append-nil}
use Rattle.schedule_log.specs.DdmTypes.declared.turns.Turn.{Turn}
use Rattle.text_model.specs.declared.ScheduleRefusal.{ScheduleRefusal}
use Rattle.text_model.specs.declared.ScheduleRefusal.TheVariants.{AfterEnd}
use Rattle.text_model.specs.Schedule.{ShapeView, Standing, in_line, at_end, refused_at, Reading, reading_on, with_turns, resumed}
use Rattle.schedule_log.specs.declared.standing.Standing.{Standing as Place}
use Rattle.schedule_log.specs.declared.standing.Standing.TheVariants.{InLine, AtEnd, Refused}
use Rattle.schedule_log.specs.declared.refusal.FeedError.{FeedError}
use Rattle.schedule_log.specs.declared.refusal.FeedError.TheVariants as error
use Rattle.schedule_log.specs.declared.reading.Lines.{Lines}
use Rattle.schedule_log.specs.Standings.{standing_of, held_in}
use Rattle.schedule_log.specs.Reader.{ReaderView, Fed, answer_of, FeedGives, held_by, KeepsHeld, LinesRead, IsInLine}

-- what a contract sees of these fields
abbrev pub seen : ℕ → ℕ → Place → List ℕ → ReaderView
seen lines made place bytes = record { made = made; lines = lines; held = held_by place bytes; standing = standing_of lines place }

abbrev view_of : ℕ → ℕ → List ℕ → Standing → ReaderView
view_of made lines held standing = record { made = made; lines = lines; held = held; standing = standing }

-- ---- no lines to come

-- no turn more
unmoved : (made lines : ℕ) (held : List ℕ) (standing : Standing) → view_of made lines held standing ≡ view_of (made + 0) (lines + 0) held standing
unmoved made lines held standing = ap (λ (n : ℕ). view_of n lines held standing) (sym (add-zero made)) ∙ ap (λ (n : ℕ). view_of (made + 0) n held standing) (sym (add-zero lines))

abbrev Stays : ShapeView → List ℕ → List Turn → Result (Unit {0}) FeedError → ReaderView → Type 0
Stays shape more turns result r = Fed shape r more r turns turns × (answer_of r.standing ≡ result)

pub end_again : (shape : ShapeView) (lines made : ℕ) (place : Place) (bytes more : List ℕ) (old : ReaderView) (turns : List Turn) → place ≡ AtEnd → seen lines made place bytes ≡ old → length more ≡ 0
    → Stays shape more turns (Ok tt) old
unfolding resumed
end_again shape lines made AtEnd bytes [] old turns e is none =
    subst (Stays shape [] turns (Ok tt)) is (record { reader = unmoved made lines [] (at_end (lines + 1 + 1)); turns = sym (append-nil turns) }, refl)
end_again shape lines made AtEnd bytes (byte ∷ more) old turns e is none = absurd (omega (arith, none))
end_again shape lines made InLine bytes more old turns e is none = absurd (cc e)
end_again shape lines made (Refused line refusal) bytes more old turns e is none = absurd (cc e)

pub refused_again : (shape : ShapeView) (lines made line : ℕ) (refusal : ScheduleRefusal) (place : Place) (bytes more : List ℕ) (old : ReaderView) (turns : List Turn) → place ≡ Refused line refusal → seen lines made place bytes ≡ old
    → Stays shape more turns (Err (error.Refused line refusal)) old
unfolding resumed
refused_again shape lines made line refusal place bytes more old turns e is =
    subst (Stays shape more turns (Err (error.Refused line refusal))) (ap (λ p. seen lines made p bytes) (sym e) ∙ is)
    (record { reader = unmoved made lines [] (refused_at line refusal); turns = sym (append-nil turns) }, refl)

pub end_refused : (shape : ShapeView) (lines made : ℕ) (place : Place) (bytes more : List ℕ) (old : ReaderView) (turns : List Turn) → place ≡ AtEnd → seen lines made place bytes ≡ old → 0 < length more
    → Fed shape old more (seen lines made (Refused (lines + 2) AfterEnd) bytes) turns turns
unfolding resumed
end_refused shape lines made AtEnd bytes [] old turns e is some = absurd (omega (arith, some))
end_refused shape lines made AtEnd bytes (byte ∷ more) old turns e is some =
    let two : lines + 2 ≡ lines + 1 + 1 = omega arith in
    subst (λ r. Fed shape r (byte ∷ more) (seen lines made (Refused (lines + 2) AfterEnd) bytes) turns turns) is (record {
      reader = unmoved made lines [] (refused_at (lines + 2) AfterEnd) ∙ ap (λ (n : ℕ). view_of (made + 0) (lines + 0) [] (refused_at n AfterEnd)) two;
      turns = sym (append-nil turns);
    })
end_refused shape lines made InLine bytes more old turns e is some = absurd (cc e)
end_refused shape lines made (Refused line refusal) bytes more old turns e is some = absurd (cc e)

-- ---- lines

held_lines : (place : Place) (lines : ℕ) (text rest : List ℕ) (standing : Standing) → standing_of lines place ≡ standing → KeepsHeld place text rest → held_by place rest ≡ held_in standing text
held_lines InLine lines text rest standing e keeps = sym keeps ∙ ap (λ s. held_in s text) e
held_lines AtEnd lines text rest standing e keeps = ap (λ s. held_in s text) e
held_lines (Refused line refusal) lines text rest standing e keeps = ap (λ s. held_in s text) e

fed_lines : (shape : ShapeView) (first made : ℕ) (held more kept : List ℕ) (before after : List Turn) (lines : Lines) → LinesRead shape first made (held ++ more) before after lines → kept ≡ drop lines.kept (held ++ more)
    → Fed shape (view_of made first held (in_line (first + 1))) more (seen lines.lines lines.made lines.standing kept) before after
unfolding resumed
fed_lines shape first made held more kept before after lines read is =
    let r = reading_on shape (first + 1) made (held ++ more) in
    let same : with_turns [] (reading_on shape (first + 1) (made + 0) (held ++ more)) ≡ r = ap (λ (n : ℕ). with_turns [] (reading_on shape (first + 1) n (held ++ more))) (add-zero made) in
    record {
      reader =
          ap (λ (n : ℕ). view_of n lines.lines (held_by lines.standing kept) (standing_of lines.lines lines.standing)) read.count
          ∙ ap (λ (n : ℕ). view_of (made + length r.turns) n (held_by lines.standing kept) (standing_of lines.lines lines.standing)) read.count_lines
          ∙ ap (λ h. view_of (made + length r.turns) (first + length r.turns) h (standing_of lines.lines lines.standing)) (ap (λ b. held_by lines.standing b) is ∙ held_lines lines.standing lines.lines (held ++ more) (drop lines.kept (held ++ more)) r.standing read.standing read.held)
          ∙ ap (λ s. view_of (made + length r.turns) (first + length r.turns) (held_in r.standing (held ++ more)) s) read.standing
          ∙ ap (λ (g : Reading). view_of (made + length g.turns) (first + length g.turns) (held_in g.standing (held ++ more)) g.standing) (sym same);
      turns = read.turns ∙ ap (λ (g : Reading). before ++ g.turns) (sym same);
    }

not_memory : (standing : Standing) → answer_of standing ≡ Err error.NoMemory → ⊥
not_memory (in_line line) e = cc e
not_memory (at_end line) e = cc e
not_memory (refused_at line refusal) e = cc e

by_answer : (shape : ShapeView) (old : ReaderView) (more : List ℕ) (new : ReaderView) (before after : List Turn) (result : Result (Unit {0}) FeedError) → Fed shape old more new before after → result ≡ answer_of new.standing
    → FeedGives shape old more new before after result
by_answer shape old more new before after (Ok u) done e = (done, sym e)
by_answer shape old more new before after (Err (error.Refused line refusal)) done e = (done, sym e)
by_answer shape old more new before after (Err error.NoMemory) done e = absurd (not_memory new.standing (sym e))

-- the lines of a piece were read
pub lines_fed : (shape : ShapeView) (first made : ℕ) (place : Place) (held more text kept : List ℕ) (old : ReaderView) (before after : List Turn) (lines : Lines) (result : Result (Unit {0}) FeedError) → IsInLine old.standing → seen first made place held ≡ old
    → text ≡ held ++ more → LinesRead shape first made text before after lines → kept ≡ drop lines.kept text → result ≡ answer_of (standing_of lines.lines lines.standing)
    → FeedGives shape old more (seen lines.lines lines.made lines.standing kept) before after result
lines_fed shape first made InLine held more text kept old before after lines result within is whole read rest answer =
    subst (λ r. FeedGives shape r more (seen lines.lines lines.made lines.standing kept) before after result) is
    (by_answer shape (seen first made InLine held) more (seen lines.lines lines.made lines.standing kept) before after result
    (fed_lines shape first made held more kept before after lines (subst (λ t. LinesRead shape first made t before after lines) whole read) (rest ∙ ap (λ t. drop lines.kept t) whole)) answer)
lines_fed shape first made AtEnd held more text kept old before after lines result within is whole read rest answer = absurd (subst (λ r. IsInLine r.standing) (sym is) within)
lines_fed shape first made (Refused line refusal) held more text kept old before after lines result within is whole read rest answer = absurd (subst (λ r. IsInLine r.standing) (sym is) within)
