-- The lines of a text that were read one after another.
-- Letters: lines and first are as many lines and turns as there were before the text, made as many turns as there are now, left what is
-- left of the text; turn is that of the next line, which has `used` bytes.
use Rattle.std.proofs.Common.{◌≡◌, ℕ, ◌+◌, ◌-◌, ◌≤◌, List, [], ◌∷◌, ◌++◌, length, take, drop, sym, ap, ◌∙◌, append_assoc, length-take, length-drop, arith}
use Rattle.std.proofs.lemmas.List.{drop-drop, take-append-le, take_rest}
use Rattle.schedule_log.specs.DdmTypes.declared.turns.Turn.{Turn}
use Rattle.text_model.specs.Schedule.{ShapeView, Reading, reading_on, with_turn}
use Rattle.schedule_log.specs.Reader.{ReadUpTo}
use Rattle.schedule_log.specs.Steps.{BeginsWithTurn}

-- one line more was read
pub read-more : (shape : ShapeView) (lines first : ℕ) (text : List ℕ) (before : List Turn) (made : ℕ) (left : List ℕ) (after : List Turn) (turn : Turn) (used : ℕ) → ReadUpTo shape lines first text before made left after → BeginsWithTurn shape (lines + (made - first)) made left turn used
    → ReadUpTo shape lines first text before (made + 1) (drop used left) (after ++ turn ∷ [])
read-more shape lines first text before made left after turn used read begins =
    let line : lines + (made - first) + 1 + 1 ≡ lines + (made + 1 - first) + 1 = omega (arith, read.of_text) in
    let more : Reading = reading_on shape (lines + (made + 1 - first) + 1) (made + 1) (drop used left) in
    let next : reading_on shape (lines + (made - first) + 1) made left ≡ with_turn turn more = begins.reading ∙ ap (λ n. with_turn turn (reading_on shape n (made + 1) (drop used left))) line in
    let turns : (reading_on shape (lines + (made - first) + 1) made left).turns ≡ turn ∷ more.turns = ap (λ r. r.turns) next in
    let count : length (reading_on shape (lines + (made - first) + 1) made left).turns ≡ length more.turns + 1 = ap (λ (ts : List Turn). length ts) turns ∙ omega arith in
    let rest : length (drop used left) ≡ length left - used = length-drop used left in
    let there : length before ≤ length after = omega (arith, ap (λ (ts : List Turn). length ts) read.front, length-take (length before) after) in
    let place : length text - length left + used ≡ length text - length (drop used left) = omega (arith, rest, read.within, begins.within) in
    record {
      turns = append_assoc after (turn ∷ []) more.turns ∙ ap (λ (ts : List Turn). after ++ ts) (sym turns) ∙ read.turns;
      standing = ap (λ r. r.standing) (sym next) ∙ read.standing;
      count = omega (arith, count, read.count);
      held = read.held ∙ begins.held;
      is_rest = ap (λ (bytes : List ℕ). drop used bytes) read.is_rest ∙ drop-drop used (length text - length left) text ∙ ap (λ n. drop n text) place;
      within = omega (arith, rest, read.within);
      of_text = omega (arith, read.of_text);
      few = omega (arith, begins.room);
      front = take-append-le (length before) after (turn ∷ []) there ∙ read.front;
    }

-- the same, in the form in which a loop has it
pub read-next : (shape : ShapeView) (lines first : ℕ) (text : List ℕ) (before : List Turn) (made : ℕ) (left : List ℕ) (after : List Turn) (turn : Turn) (used : ℕ) (next : List Turn) → ReadUpTo shape lines first text before made left after → BeginsWithTurn shape (lines + (made - first)) made left turn used → next ≡ after ++ turn ∷ []
    → ReadUpTo shape lines first text before (made + 1) (take (length left - used) (drop used left)) next
read-next shape lines first text before made left after turn used next read begins is =
    rw (take_rest left used) (rw is (read-more shape lines first text before made left after turn used read begins))
