-- Each run of a table that is read is in one of its lines.
-- Letters: n is the number of a line, l is a line of a table.
use Rattle.std.proofs.Common.{◌≡◌, ℕ, zero, suc, ◌+◌, ◌-◌, ◌≤◌, true, false, cond, ◌&&◌, List, [], ◌∷◌, Option, Some, None, Result, Ok, Err, refl, sym, ap, subst, ◌∙◌, arith}
use Rattle.std.specs.Prelude.{bytes_eq, codes, nat_eq, nat_le, nat_lt, length, sum_by}
use Rattle.std.specs.Result.{result_ok}
use Rattle.std.proofs.lemmas.Bool.{eqb-true}
use Rattle.std.proofs.lemmas.List.Sums.{sum_by-cons}
use Rattle.text_model.proofs.DdmText.Spellings.{number_of-within}
use Rattle.outcome_model.specs.Table.{OutcomeLine}
use Rattle.text_model.specs.Schedule.{pieces_at}
use Rattle.text_model.specs.DdmText.Numbers.{number_of}
use Rattle.join_model.proofs.ReadBack.{times}
use Rattle.join_model.specs.Table.{Heading, Table, after_end, heading_of_words, line_of_words, line_with, lines_from, most_bytes, most_number, number_in, on_line, outcome_in, table_behind, table_in, table_of_pieces, table_with, with_line_before}
use Rattle.join_model.specs.declared.table.TableRefusal.{TableRefusal}
use Rattle.join_model.specs.TextLaws.{ReadTablesAreCounted}
use Rattle.join_model.specs.declared.table.TableRefusal.TheVariants.{BadLine, TooLong}

abbrev IsWithin : ℕ → Option ℕ → Type 0
IsWithin most o = (n : ℕ) → o ≡ Some n → n ≤ most

within-of : {E : Type 0} (r : Result ℕ E) (most n : ℕ) → ((k : ℕ) → r ≡ Ok k → k ≤ most) → result_ok r ≡ Some n → n ≤ most
within-of (Ok k) most n low is = low n (cc is)
within-of (Err e) most n low is = absurd (cc is)

line-within : (a b : Option ℕ) (o : List ℕ) (most : ℕ) (l : OutcomeLine) → IsWithin most a → line_with a b o ≡ Some l → l.times ≤ most
line-within None b o most l low is = absurd (cc is)
line-within (Some k) None o most l low is = absurd (cc is)
line-within (Some k) (Some seed) o most l low is =
    elim (nat_le 1 k) as (λ d. cond d (Some (record { times = k; seed = seed; outcome = o })) None ≡ Some l → l.times ≤ most) [
      | true ↦ λ e.
          let read : OutcomeLine = record { times = k; seed = seed; outcome = o } in
          let same : read ≡ l = cc e in
          subst (λ (x : OutcomeLine). x.times ≤ most) same (low k refl)
      | false ↦ λ e. absurd (cc e)
    ] is

times-within : (left : ℕ) (words : List (List ℕ)) (l : OutcomeLine) → line_of_words left words ≡ Some l → l.times ≤ left
unfolding line_of_words
times-within left [] l is = absurd (cc is)
times-within left (mark ∷ []) l is = absurd (cc is)
times-within left (mark ∷ n ∷ []) l is = absurd (cc is)
times-within left (mark ∷ n ∷ seed ∷ words) l is =
    elim (bytes_eq mark (codes "outcome")) as (λ d. cond d (line_with (number_in left n) (number_in most_number seed) (outcome_in words)) None ≡ Some l → l.times ≤ left) [
      | true ↦ λ e. line-within (number_in left n) (number_in most_number seed) (outcome_in words) left l (λ k found. within-of (number_of n left) left k (λ j ok. number_of-within n left j ok) found) e
      | false ↦ λ e. absurd (cc e)
    ] is

-- ---- lines

after-counted : (n left : ℕ) (piece : List ℕ) (pieces : List (List ℕ)) (ls : List OutcomeLine) → left ≡ 0 → after_end n piece pieces ≡ Ok ls → sum_by times ls ≡ left
after-counted n left [] [] ls empty is = let same : ls ≡ [] = cc is in ap (sum_by times) same ∙ sym empty
after-counted n left [] (piece ∷ pieces) ls empty is = absurd (cc is)
after-counted n left (byte ∷ bytes) pieces ls empty is = absurd (cc is)

more-counted : (l : OutcomeLine) (left : ℕ) (r : Result (List OutcomeLine) TableRefusal) (ls : List OutcomeLine) → l.times ≤ left → ((rest : List OutcomeLine) → r ≡ Ok rest → sum_by times rest ≡ left - l.times) → with_line_before l r ≡ Ok ls → sum_by times ls ≡ left
more-counted l left (Ok rest) ls within counted is =
    let same : ls ≡ l ∷ rest = cc is in
    let sum : sum_by times (l ∷ rest) ≡ left = (let total = sum_by-cons times l rest in let more = counted rest refl in omega (arith, total, more, within)) in
    ap (sum_by times) same ∙ sum
more-counted l left (Err r) ls within counted is = absurd (cc is)

lines-counted : (n count left : ℕ) (pieces : List (List ℕ)) (ls : List OutcomeLine) → lines_from n count left pieces ≡ Ok ls → sum_by times ls ≡ left
unfolding lines_from
lines-counted n zero left [] ls is = absurd (cc is)
lines-counted n (suc count) left [] ls is = absurd (cc is)
lines-counted n zero left (piece ∷ []) ls is = absurd (cc is)
lines-counted n (suc count) left (piece ∷ []) ls is = absurd (cc is)
lines-counted n zero left (piece ∷ next ∷ pieces) ls is =
    elim (nat_eq left 0) as (λ d. nat_eq left 0 ≡ d → cond (d && bytes_eq piece (codes "end")) (after_end (n + 1) next pieces) (Err (BadLine n)) ≡ Ok ls → sum_by times ls ≡ left) [
      | true ↦ λ none. elim (bytes_eq piece (codes "end")) as (λ d. cond d (after_end (n + 1) next pieces) (Err (BadLine n)) ≡ Ok ls → sum_by times ls ≡ left) [
        | true ↦ λ e. after-counted (n + 1) left next pieces ls (eqb-true left 0 none) e
        | false ↦ λ e. absurd (cc e)
      ]
      | false ↦ λ some e. absurd (cc e)
    ] refl is
lines-counted n (suc count) left (piece ∷ next ∷ pieces) ls is =
    elim (line_of_words left (pieces_at 32 piece)) as (λ o. line_of_words left (pieces_at 32 piece) ≡ o → on_line n o (λ k. lines_from (n + 1) count (left - k) (next ∷ pieces)) ≡ Ok ls → sum_by times ls ≡ left) [
      | None ↦ λ none e. absurd (cc e)
      | Some l ↦ λ some e. more-counted l left (lines_from (n + 1) count (left - l.times) (next ∷ pieces)) ls (times-within left (pieces_at 32 piece) l some) (λ rest ok. lines-counted (n + 1) count (left - l.times) (next ∷ pieces) rest ok) e
    ] refl is

-- ---- tables

with-counted : (h : Heading) (r : Result (List OutcomeLine) TableRefusal) (t : Table) → ((ls : List OutcomeLine) → r ≡ Ok ls → sum_by times ls ≡ h.runs) → table_with h.kind h.runs r ≡ Ok t → sum_by times t.lines ≡ t.runs
with-counted h (Ok ls) t counted is =
    let read : Table = record { kind = h.kind; runs = h.runs; lines = ls } in
    let same : read ≡ t = cc is in
    subst (λ (x : Table). sum_by times x.lines ≡ x.runs) same (counted ls refl)
with-counted h (Err r) t counted is = absurd (cc is)

behind-counted : (o : Option Heading) (pieces : List (List ℕ)) (t : Table) → table_behind o pieces ≡ Ok t → sum_by times t.lines ≡ t.runs
behind-counted None pieces t is = absurd (cc is)
behind-counted (Some h) pieces t is = with-counted h (lines_from 2 h.lines h.runs pieces) t (λ ls ok. lines-counted 2 h.lines h.runs pieces ls ok) is

pub table-counted : (pieces : List (List ℕ)) (t : Table) → table_of_pieces pieces ≡ Ok t → sum_by times t.lines ≡ t.runs
unfolding table_of_pieces
table-counted [] t is = absurd (cc is)
table-counted (piece ∷ []) t is = absurd (cc is)
table-counted (piece ∷ next ∷ pieces) t is = behind-counted (heading_of_words (pieces_at 32 piece)) (next ∷ pieces) t is

pub read-counted : ReadTablesAreCounted
unfolding table_in
read-counted file t is =
    elim (nat_lt most_bytes (length file)) as (λ d. cond d (Err TooLong) (table_of_pieces (pieces_at 10 file)) ≡ Ok t → sum_by times t.lines ≡ t.runs) [
      | true ↦ λ e. absurd (cc e)
      | false ↦ λ e. table-counted (pieces_at 10 file) t e
    ] is
