-- The outcomes of machines are in one line each, and the texts of ranges of seeds of one machine come to the text of the whole range.
-- Letters: m is a machine, o an outcome, e a hart's end, d a digit.
use Rattle.std.proofs.Common.{◌≡◌, ℕ, zero, suc, ◌+◌, ◌-◌, ◌≤◌, ◌/◌, ◌%◌, true, false, not, cond, ◌&&◌, List, [], ◌∷◌, ◌++◌, length, map, Option, Some, None, Ok, refl, sym, ap, subst, ◌∙◌, arith}
use Rattle.std.specs.Prelude.{codes, decimal, flat_map, nat_eq, nat_lt, sum}
use Rattle.std.specs.List.{AllByRecursion, list_all, range_with_len}
use Rattle.std.specs.Fmt.{digit_glyph, digits, digits_onto}
use Rattle.std.proofs.lemmas.Bool.{eqb-true}
use Rattle.std.proofs.lemmas.List.{length-map, map-append}
use Rattle.std.proofs.lemmas.List.FromFn.{length-range_with_len}
use Rattle.std.proofs.lemmas.List.Sums.{sum_by-cons}
use Rattle.text_model.specs.DdmTypes.declared.operations.Effect.{Effect}
use Rattle.text_model.specs.DdmTypes.declared.operations.HaltCause.{HaltCause}
use Rattle.text_model.specs.DdmTypes.declared.operations.Op.{Op}
use Rattle.text_model.specs.Lines.{Lacks}
use Rattle.text_model.specs.Report.{or_dash, put_text, put_text_by, put_texts}
use Rattle.text_model.specs.Schedule.{ShapeView}
use Rattle.text_model.specs.Words.{halt_text, state_text}
use Rattle.text_model.proofs.Pieces.{Lacks-append}
use Rattle.outcome_model.specs.DdmText.Hex.{hex2, hex8}
use Rattle.outcome_model.specs.Outcome.{HartEnd, end_of, end_text, ends_text, outcome_of, seed_outcome, seed_outcomes}
use Rattle.outcome_model.specs.Outcomes.{outcome_table, outcomes_text}
use Rattle.outcome_model.specs.Table.{table_of, table_text}
use Rattle.outcome_model.specs.TreeModel.State.Values.{MachineValue}
use Rattle.outcome_model.specs.TreeModel.Turns.Machine.{machine_leaves, run_of}
use Rattle.text_model.specs.Seeded.{seeded_turns}
use Rattle.join_model.specs.Files.{joined_text}
use Rattle.join_model.specs.JoinLaws.{all_outcomes}
use Rattle.join_model.specs.OutcomeTexts.{JoinedOutcomes, OutcomesAreTexts, range_texts}
use Rattle.join_model.specs.Table.{Table, most_bytes, most_number, text_of}
use Rattle.join_model.specs.TextLaws.{AreShort, BeginsWithSpace, IsOutcomeText, range_table, range_tables}
use Rattle.join_model.specs.declared.table.TableKind.TheVariants.{Outcomes}
use Rattle.join_model.proofs.RangeTexts.{joined-ranges}

-- ---- texts without line feeds

other-byte : (byte : ℕ) → 11 ≤ byte → not (nat_eq byte 10) ≡ true
other-byte byte above =
    elim (nat_eq byte 10) as (λ b. nat_eq byte 10 ≡ b → not b ≡ true) [
      | true ↦ λ same. absurd (let is = eqb-true byte 10 same in omega (arith, is, above))
      | false ↦ λ other. refl
    ] refl

glyph-other : (d : ℕ) → not (nat_eq (digit_glyph false d) 10) ≡ true
glyph-other d = elim (nat_lt d 10) as (λ b. not (nat_eq (cond b (48 + d) (87 + d)) 10) ≡ true) [ true ↦ other-byte (48 + d) (omega arith) | false ↦ other-byte (87 + d) (omega arith) ]

lacks-cons : (byte : ℕ) (text : List ℕ) → not (nat_eq byte 10) ≡ true → Lacks 10 text → Lacks 10 (byte ∷ text)
lacks-cons byte text here rest = ap (λ b. b && list_all (λ b. not (nat_eq b 10)) text) here ∙ rest

lacks-onto : (k n : ℕ) (text : List ℕ) → Lacks 10 text → Lacks 10 (digits_onto k 10 false n text)
lacks-onto zero n text lacks = lacks
lacks-onto (suc k) n text lacks =
    let one = lacks-cons (digit_glyph false (n % 10)) text (glyph-other (n % 10)) lacks in
    elim (nat_eq (n / 10) 0) as (λ b. Lacks 10 (cond b (digit_glyph false (n % 10) ∷ text) (digits_onto k 10 false (n / 10) (digit_glyph false (n % 10) ∷ text)))) [
      | true ↦ one
      | false ↦ lacks-onto k (n / 10) (digit_glyph false (n % 10) ∷ text) one
    ]

lacks-decimal : (n : ℕ) → Lacks 10 (decimal n)
unfolding digits
lacks-decimal n = lacks-onto 64 n [] refl

lacks-hex2 : (n : ℕ) → Lacks 10 (hex2 n)
unfolding hex2
lacks-hex2 n = lacks-cons (digit_glyph false (n / 16)) (digit_glyph false (n % 16) ∷ []) (glyph-other (n / 16)) (lacks-cons (digit_glyph false (n % 16)) [] (glyph-other (n % 16)) refl)

lacks-hex8 : (n : ℕ) → Lacks 10 (hex8 n)
unfolding hex8
lacks-hex8 n =
    Lacks-append 10 ((hex2 (n / 16777216) ++ hex2 (n / 65536 % 256)) ++ hex2 (n / 256 % 256)) (hex2 (n % 256))
    (Lacks-append 10 (hex2 (n / 16777216) ++ hex2 (n / 65536 % 256)) (hex2 (n / 256 % 256)) (Lacks-append 10 (hex2 (n / 16777216)) (hex2 (n / 65536 % 256)) (lacks-hex2 (n / 16777216)) (lacks-hex2 (n / 65536 % 256))) (lacks-hex2 (n / 256 % 256)))
    (lacks-hex2 (n % 256))

-- ---- outcomes

lacks-halt : (cause : HaltCause) → Lacks 10 (halt_text cause)
unfolding halt_text
lacks-halt (HaltCause.Exit code) = Lacks-append 10 (codes "exit ") (decimal code) refl (lacks-decimal code)
lacks-halt (HaltCause.Illegal word) = Lacks-append 10 (codes "illegal ") (hex8 word) refl (lacks-hex8 word)
lacks-halt HaltCause.Breakpoint = refl
lacks-halt (HaltCause.UnknownCall number) = Lacks-append 10 (codes "call ") (decimal number) refl (lacks-decimal number)
lacks-halt (HaltCause.MisalignedTarget address) = Lacks-append 10 (codes "badtarget ") (hex8 address) refl (lacks-hex8 address)
lacks-halt (HaltCause.FetchOutside address) = Lacks-append 10 (codes "nofetch ") (hex8 address) refl (lacks-hex8 address)
lacks-halt (HaltCause.MisalignedAccess address) = Lacks-append 10 (codes "misaligned ") (hex8 address) refl (lacks-hex8 address)
lacks-halt (HaltCause.LoadOutside address) = Lacks-append 10 (codes "noload ") (hex8 address) refl (lacks-hex8 address)
lacks-halt (HaltCause.StoreOutside address) = Lacks-append 10 (codes "nostore ") (hex8 address) refl (lacks-hex8 address)

lacks-state : (halt : Option HaltCause) → Lacks 10 (state_text halt)
unfolding state_text
lacks-state None = refl
lacks-state (Some cause) = lacks-halt cause

lacks-effect : (effect : Effect) → Lacks 10 (put_text effect)
lacks-effect Effect.Plain = refl
lacks-effect (Effect.Put byte) = lacks-hex2 byte
lacks-effect (Effect.Load address word) = refl
lacks-effect (Effect.Store address before after) = refl
lacks-effect (Effect.Lr address word) = refl
lacks-effect (Effect.ScOk address before after) = refl
lacks-effect (Effect.ScFail address) = refl
lacks-effect (Effect.Amo address before after) = refl

lacks-put : (number : ℕ) (op : Op) → Lacks 10 (put_text_by number op)
lacks-put number op = elim (nat_eq op.hart number) as (λ b. Lacks 10 (cond b (put_text op.effect) [])) [ true ↦ lacks-effect op.effect | false ↦ refl ]

lacks-puts : (number : ℕ) (ops : List Op) → Lacks 10 (flat_map (put_text_by number) ops)
lacks-puts number [] = refl
lacks-puts number (op ∷ ops) = Lacks-append 10 (put_text_by number op) (flat_map (put_text_by number) ops) (lacks-put number op) (lacks-puts number ops)

lacks-dash : (text : List ℕ) → Lacks 10 text → Lacks 10 (or_dash text)
lacks-dash [] lacks = refl
lacks-dash (byte ∷ bytes) lacks = lacks

lacks-end : (ops : List Op) (e : HartEnd) → Lacks 10 (end_text ops e)
unfolding end_text put_texts
lacks-end ops e =
    let number = decimal e.number in
    let state = state_text e.halt in
    let out = or_dash (flat_map (put_text_by e.number) ops) in
    Lacks-append 10 (((codes " hart " ++ number) ++ codes " ") ++ state ++ codes " out ") out
    (Lacks-append 10 (((codes " hart " ++ number) ++ codes " ") ++ state) (codes " out ")
    (Lacks-append 10 ((codes " hart " ++ number) ++ codes " ") state
    (Lacks-append 10 (codes " hart " ++ number) (codes " ") (Lacks-append 10 (codes " hart ") number refl (lacks-decimal e.number)) refl)
    (lacks-state e.halt))
    refl)
    (lacks-dash (flat_map (put_text_by e.number) ops) (lacks-puts e.number ops))

lacks-ends : (ops : List Op) (ends : List HartEnd) → Lacks 10 (flat_map (end_text ops) ends)
lacks-ends ops [] = refl
lacks-ends ops (e ∷ ends) = Lacks-append 10 (end_text ops e) (flat_map (end_text ops) ends) (lacks-end ops e) (lacks-ends ops ends)

begins-ends : (ops : List Op) (ends : List HartEnd) → BeginsWithSpace (flat_map (end_text ops) ends)
unfolding end_text
begins-ends ops [] = tt
begins-ends ops (e ∷ ends) = refl

pub outcomes-texts : OutcomesAreTexts
unfolding outcome_of ends_text
outcomes-texts m = record { begins = begins-ends m.ops (map end_of (machine_leaves m)); one_line = lacks-ends m.ops (map end_of (machine_leaves m)) }

-- ---- ranges of one machine

module _ (shape : ShapeView) (turns : ℕ) (m : MachineValue) where
  abbrev outs : ℕ → ℕ → List (List ℕ)
  outs first count = seed_outcomes shape turns m first count

  seed-text : (seed : ℕ) → IsOutcomeText (seed_outcome shape turns m seed)
  unfolding seed_outcome
  seed-text seed = outcomes-texts (run_of (seeded_turns shape seed turns) m).machine

  seeds-texts : (seeds : List ℕ) → AllByRecursion IsOutcomeText (map (seed_outcome shape turns m) seeds)
  seeds-texts [] = tt
  seeds-texts (seed ∷ seeds) = (seed-text seed, seeds-texts seeds)

  outs-length : (first count : ℕ) → length (outs first count) ≡ count
  outs-length first count = length-map (range_with_len first count) (seed_outcome shape turns m) ∙ length-range_with_len first count

  text-is : (first count : ℕ) → outcomes_text shape turns m first count ≡ text_of (range_table Outcomes first (outs first count))
  unfolding outcomes_text outcome_table table_text text_of
  text-is first count = ap (λ n. table_text n (table_of first (outs first count))) (sym (outs-length first count))

  unfoldable ranges-of : ℕ → List ℕ → List (List (List ℕ))
  ranges-of first [] = []
  ranges-of first (count ∷ counts) = outs first count ∷ ranges-of (first + count) counts

  ranges-texts : (first : ℕ) (counts : List ℕ) → map text_of (range_tables Outcomes first (ranges-of first counts)) ≡ range_texts shape turns m first counts
  unfolding ranges-of range_tables range_texts
  ranges-texts first [] = refl
  ranges-texts first (count ∷ counts) =
      ap (λ n. text_of (range_table Outcomes first (outs first count)) ∷ map text_of (range_tables Outcomes (first + n) (ranges-of (first + count) counts))) (outs-length first count)
      ∙ ap (λ text. text ∷ map text_of (range_tables Outcomes (first + count) (ranges-of (first + count) counts))) (sym (text-is first count))
      ∙ ap (λ texts. outcomes_text shape turns m first count ∷ texts) (ranges-texts (first + count) counts)

  range-more : (first a b : ℕ) → range_with_len first (a + b) ≡ range_with_len first a ++ range_with_len (first + a) b
  range-more first zero b = let none : first + 0 ≡ first = omega arith in let same : 0 + b ≡ b = omega arith in ap (range_with_len first) same ∙ ap (λ n. range_with_len n b) (sym none)
  range-more first (suc a) b =
      let next : suc a + b ≡ suc (a + b) = omega arith in
      let far : first + suc a ≡ first + 1 + a = omega arith in
      ap (range_with_len first) next ∙ ap (λ ns. first ∷ ns) (range-more (first + 1) a b ∙ ap (λ n. range_with_len (first + 1) a ++ range_with_len n b) (sym far))

  outs-more : (first a b : ℕ) → outs first (a + b) ≡ outs first a ++ outs (first + a) b
  outs-more first a b = ap (map (seed_outcome shape turns m)) (range-more first a b) ∙ map-append (seed_outcome shape turns m) (range_with_len first a) (range_with_len (first + a) b)

  all-outs : (first : ℕ) (counts : List ℕ) → all_outcomes (ranges-of first counts) ≡ outs first (sum counts)
  unfolding ranges-of all_outcomes
  all-outs first [] = refl
  all-outs first (count ∷ counts) =
      ap (λ os. outs first count ++ os) (all-outs (first + count) counts)
      ∙ sym (outs-more first count (sum counts)) ∙ ap (outs first) (sym (sum_by-cons (λ n. n) count counts))

  ranges-are-texts : (first : ℕ) (counts : List ℕ) → AllByRecursion (AllByRecursion IsOutcomeText) (ranges-of first counts)
  unfolding ranges-of
  ranges-are-texts first [] = tt
  ranges-are-texts first (count ∷ counts) = (seeds-texts (range_with_len first count), ranges-are-texts (first + count) counts)

  of-texts : (ts : List Table) → AllByRecursion (λ (text : List ℕ). length text ≤ most_bytes) (map text_of ts) → AreShort ts
  of-texts [] all = tt
  of-texts (t ∷ ts) all = (all.0, of-texts ts all.1)

  one-range : (first count : ℕ) (counts : List ℕ) → ranges-of first (count ∷ counts) ≡ outs first count ∷ ranges-of (first + count) counts
  unfolding ranges-of
  one-range first count counts = refl

  joined-of : (first count : ℕ) (counts : List ℕ) → first + sum (count ∷ counts) ≤ most_number + 1 → sum (count ∷ counts) ≤ most_number
      → AllByRecursion (λ (text : List ℕ). length text ≤ most_bytes) (range_texts shape turns m first (count ∷ counts))
      → joined_text (range_texts shape turns m first (count ∷ counts)) ≡ Ok (outcomes_text shape turns m first (sum (count ∷ counts)))
  joined-of first count counts small few short =
      let all = count ∷ counts in
      let os = outs first count in
      let more = ranges-of (first + count) counts in
      let is : ranges-of first all ≡ os ∷ more = one-range first count counts in
      let whole : all_outcomes (os ∷ more) ≡ outs first (sum all) = ap all_outcomes (sym is) ∙ all-outs first all in
      let size : length (all_outcomes (os ∷ more)) ≡ sum all = ap length whole ∙ outs-length first (sum all) in
      let texts : map text_of (range_tables Outcomes first (os ∷ more)) ≡ range_texts shape turns m first all = ap (λ rs. map text_of (range_tables Outcomes first rs)) (sym is) ∙ ranges-texts first all in
      let shorts : AreShort (range_tables Outcomes first (os ∷ more)) = of-texts (range_tables Outcomes first (os ∷ more)) (subst (AllByRecursion (λ (text : List ℕ). length text ≤ most_bytes)) (sym texts) short) in
      ap joined_text (sym texts)
      ∙ joined-ranges Outcomes first os more (subst (AllByRecursion (AllByRecursion IsOutcomeText)) is (ranges-are-texts first all)) (omega (arith, small, size)) (omega (arith, few, size)) shorts
      ∙ ap (λ xs. Ok (text_of (range_table Outcomes first xs))) whole
      ∙ ap (λ text. Ok text) (sym (text-is first (sum all)))

pub joined-outcomes : JoinedOutcomes
joined-outcomes shape turns m first count counts small few short = joined-of shape turns m first count counts small few short
