-- The lines of a table as the code reads them, one by one.
-- Letters: n is the number of a line, l is a line of a table.
use Rattle.std.proofs.Common.{◌≡◌, ℕ, zero, suc, ◌+◌, ◌-◌, ◌<◌, ◌≤◌, inl, inr, Bool, true, false, cond, ◌&&◌, List, [], ◌∷◌, ◌++◌, length, take, drop, Some, None, Result, Ok, Err, refl, sym, ap, ◌∙◌, append_assoc, arith}
use Rattle.std.specs.Prelude.{bytes_eq, codes, nat_eq, sum_by, IfOk, MatchResult}
use Rattle.std.proofs.lemmas.Bool.{cases_lt}
use Rattle.std.proofs.lemmas.List.{drop-drop, drop_all, length-append, take_all}
use Rattle.joining.specs.OutcomeModel.Table.{OutcomeLine}
use Rattle.joining.specs.TextModel.Schedule.{pieces_at, with_byte_before}
use Rattle.join_model.proofs.TextModel.Pieces.{some_piece}
use Rattle.joining.specs.Said.{IsTableError, table_said, times}
use Rattle.joining.specs.declared.reading.ReadTable.{ReadTable}
use Rattle.joining.specs.declared.reading.TableError.{TableError}
use Rattle.joining.specs.declared.reading.TableError.TheVariants.{Refused, Memory}
use Rattle.join_model.proofs.Counted.{table-counted}
use Rattle.join_model.proofs.ReadBack.{outcome_in-pieces}
use Rattle.join_model.specs.Table.{Heading, after_end, heading_of_words, line_of_words, line_with, lines_from, most_number, number_in, on_line, outcome_in, table_behind, table_of_pieces, table_with, with_line_before}
use Rattle.join_model.specs.declared.table.TableRefusal.{TableRefusal}
use Rattle.join_model.specs.declared.table.TableRefusal.TheVariants.{AfterEnd, BadLine, NoEnd}

-- ---- lines that are read before the others

abbrev pub before : List OutcomeLine → Result (List OutcomeLine) TableRefusal → Result (List OutcomeLine) TableRefusal
before ls (Ok more) = Ok (ls ++ more)
before ls (Err r) = Err r

pub before-none : (r : Result (List OutcomeLine) TableRefusal) → before [] r ≡ r
before-none (Ok ls) = refl
before-none (Err r) = refl

pub before-push : (ls : List OutcomeLine) (l : OutcomeLine) (r : Result (List OutcomeLine) TableRefusal) → before ls (with_line_before l r) ≡ before (ls ++ l ∷ []) r
before-push ls l (Ok more) = ap (λ xs. Ok xs) (sym (append_assoc ls (l ∷ []) more))
before-push ls l (Err r) = refl

-- ---- a line

pub lines-step : (n count left : ℕ) (piece text : List ℕ) (l : OutcomeLine) → line_of_words left (pieces_at 32 piece) ≡ Some l → lines_from n (suc count) left (piece ∷ pieces_at 10 text) ≡ with_line_before l (lines_from (n + 1) count (left - l.times) (pieces_at 10 text))
unfolding lines_from
lines-step n count left piece text l is =
    let some = some_piece 10 text in
    ap (λ ps. lines_from n (suc count) left (piece ∷ ps)) some.2
    ∙ ap (λ o. on_line n o (λ k. lines_from (n + 1) count (left - k) (some.0 ∷ some.1))) is
    ∙ ap (λ ps. with_line_before l (lines_from (n + 1) count (left - l.times) ps)) (sym some.2)

pub lines-bad : (n count left : ℕ) (piece text : List ℕ) → line_of_words left (pieces_at 32 piece) ≡ None → lines_from n (suc count) left (piece ∷ pieces_at 10 text) ≡ Err (BadLine n)
unfolding lines_from
lines-bad n count left piece text is =
    let some = some_piece 10 text in
    ap (λ ps. lines_from n (suc count) left (piece ∷ ps)) some.2
    ∙ ap (λ o. on_line n o (λ k. lines_from (n + 1) count (left - k) (some.0 ∷ some.1))) is

pub lines-cut : (n count left : ℕ) (piece : List ℕ) → lines_from n count left (piece ∷ []) ≡ Err (NoEnd n)
unfolding lines_from
lines-cut n zero left piece = refl
lines-cut n (suc count) left piece = refl

-- ---- the line `end`

abbrev after_pieces : ℕ → List (List ℕ) → Result (List OutcomeLine) TableRefusal
after_pieces n [] = Ok []
after_pieces n (piece ∷ pieces) = after_end n piece pieces

lines-end : (n left : ℕ) (piece text : List ℕ) → lines_from n zero left (piece ∷ pieces_at 10 text) ≡ cond (nat_eq left 0 && bytes_eq piece (codes "end")) (after_pieces (n + 1) (pieces_at 10 text)) (Err (BadLine n))
unfolding lines_from
lines-end n left piece text =
    let some = some_piece 10 text in
    ap (λ ps. lines_from n zero left (piece ∷ ps)) some.2
    ∙ ap (λ ps. cond (nat_eq left 0 && bytes_eq piece (codes "end")) (after_pieces (n + 1) ps) (Err (BadLine n))) (sym some.2)

pub end-bad : (n left : ℕ) (piece text : List ℕ) → (nat_eq left 0 && bytes_eq piece (codes "end")) ≡ false → lines_from n zero left (piece ∷ pieces_at 10 text) ≡ Err (BadLine n)
end-bad n left piece text not-end = lines-end n left piece text ∙ ap (λ b. cond b (after_pieces (n + 1) (pieces_at 10 text)) (Err (BadLine n))) not-end

after-none : (n : ℕ) → after_pieces n (pieces_at 10 []) ≡ Ok []
unfolding pieces_at
after-none n = refl

after-by : (d : Bool) (n byte : ℕ) (piece : List ℕ) (pieces : List (List ℕ)) → after_pieces n (cond d ([] ∷ piece ∷ pieces) ((byte ∷ piece) ∷ pieces)) ≡ Err (AfterEnd n)
after-by true n byte piece pieces = refl
after-by false n byte piece pieces = refl

after-some : (n : ℕ) (text : List ℕ) → 0 < length text → after_pieces n (pieces_at 10 text) ≡ Err (AfterEnd n)
unfolding pieces_at
after-some n [] some = absurd (omega (arith, some))
after-some n (byte ∷ text) some =
    let first = some_piece 10 text in
    ap (λ ps. after_pieces n (with_byte_before 10 byte ps)) first.2 ∙ after-by (nat_eq byte 10) n byte first.0 first.1

pub end-good : (n left : ℕ) (piece : List ℕ) → (nat_eq left 0 && bytes_eq piece (codes "end")) ≡ true → lines_from n zero left (piece ∷ pieces_at 10 []) ≡ Ok []
end-good n left piece is = lines-end n left piece [] ∙ ap (λ b. cond b (after_pieces (n + 1) (pieces_at 10 [])) (Err (BadLine n))) is ∙ after-none (n + 1)

pub end-more : (n left : ℕ) (piece text : List ℕ) → (nat_eq left 0 && bytes_eq piece (codes "end")) ≡ true → 0 < length text → lines_from n zero left (piece ∷ pieces_at 10 text) ≡ Err (AfterEnd (n + 1))
end-more n left piece text is some = lines-end n left piece text ∙ ap (λ b. cond b (after_pieces (n + 1) (pieces_at 10 text)) (Err (BadLine n))) is ∙ after-some (n + 1) text some

-- ---- the first line

pub table-cut : (piece : List ℕ) → table_of_pieces (piece ∷ []) ≡ Err (NoEnd 1)
unfolding table_of_pieces
table-cut piece = refl

pub table-bad : (piece text : List ℕ) → heading_of_words (pieces_at 32 piece) ≡ None → table_of_pieces (piece ∷ pieces_at 10 text) ≡ Err (BadLine 1)
unfolding table_of_pieces
table-bad piece text is = let some = some_piece 10 text in ap (λ ps. table_of_pieces (piece ∷ ps)) some.2 ∙ ap (λ o. table_behind o (some.0 ∷ some.1)) is

pub table-good : (piece text : List ℕ) (h : Heading) → heading_of_words (pieces_at 32 piece) ≡ Some h → table_of_pieces (piece ∷ pieces_at 10 text) ≡ table_with h.kind h.runs (lines_from 2 h.lines h.runs (pieces_at 10 text))
unfolding table_of_pieces
table-good piece text h is =
    let some = some_piece 10 text in
    ap (λ ps. table_of_pieces (piece ∷ ps)) some.2 ∙ ap (λ o. table_behind o (some.0 ∷ some.1)) is ∙ ap (λ ps. table_with h.kind h.runs (lines_from 2 h.lines h.runs ps)) (sym some.2)

-- ---- the words of a line

no-words : outcome_in [] ≡ []
unfolding outcome_in
no-words = refl

-- what is behind the word of the seed is the outcome
outcome-behind : (rest : List ℕ) (end : ℕ) → drop end rest ≡ 32 ∷ drop (end + 1) rest → outcome_in (pieces_at 32 (drop (end + 1) rest)) ≡ drop end rest
outcome-behind rest end here = outcome_in-pieces (drop (end + 1) rest) ∙ sym here

three-words : (left : ℕ) (mark n seed : List ℕ) (words : List (List ℕ)) → line_of_words left (mark ∷ n ∷ seed ∷ words) ≡ cond (bytes_eq mark (codes "outcome")) (line_with (number_in left n) (number_in most_number seed) (outcome_in words)) None
unfolding line_of_words
three-words left mark n seed words = refl

pub line-words : (left : ℕ) (mark n rest : List ℕ) (end : ℕ) → end ≤ length rest → (end ≡ length rest → pieces_at 32 rest ≡ rest ∷ [])
    → (end < length rest → pieces_at 32 rest ≡ take end rest ∷ pieces_at 32 (drop (end + 1) rest)) → (end < length rest → drop end rest ≡ 32 ∷ drop (end + 1) rest)
    → line_of_words left (mark ∷ n ∷ pieces_at 32 rest) ≡ cond (bytes_eq mark (codes "outcome")) (line_with (number_in left n) (number_in most_number (take end rest)) (drop end rest)) None
line-words left mark n rest end within last more here = elim (cases_lt end (length rest)) [
  | inl inside ↦
      ap (λ ws. line_of_words left (mark ∷ n ∷ ws)) (more inside)
      ∙ three-words left mark n (take end rest) (pieces_at 32 (drop (end + 1) rest))
      ∙ ap (λ o. cond (bytes_eq mark (codes "outcome")) (line_with (number_in left n) (number_in most_number (take end rest)) o) None) (outcome-behind rest end (here inside))
  | inr past ↦
      let whole : end ≡ length rest = omega (arith, within, past) in
      ap (λ ws. line_of_words left (mark ∷ n ∷ ws)) (last whole)
      ∙ three-words left mark n rest []
      ∙ ap (λ s. cond (bytes_eq mark (codes "outcome")) (line_with (number_in left n) (number_in most_number s) (outcome_in [])) None) (sym (take_all end rest past))
      ∙ ap (λ o. cond (bytes_eq mark (codes "outcome")) (line_with (number_in left n) (number_in most_number (take end rest)) o) None) (no-words ∙ sym (drop_all end rest past))
]

-- ---- what is read of a text from a place on

module _ (count left at : ℕ) (text : List ℕ) (done : List OutcomeLine) where
  -- what the lines from there on come to, behind those that are read
  abbrev pub so-far : Result (List OutcomeLine) TableRefusal
  so-far = before done (lines_from (2 + length done) (count - length done) left (pieces_at 10 (drop at text)))

  pub cut-at : pieces_at 10 (drop at text) ≡ drop at text ∷ [] → so-far ≡ Err (NoEnd (2 + length done))
  cut-at pieces = ap (λ ps. before done (lines_from (2 + length done) (count - length done) left ps)) pieces ∙ ap (before done) (lines-cut (2 + length done) (count - length done) left (drop at text))

  module _ (end : ℕ) (more : length done < count) (pieces : pieces_at 10 (drop at text) ≡ take end (drop at text) ∷ pieces_at 10 (drop (end + 1) (drop at text))) where
    abbrev piece : List ℕ
    piece = take end (drop at text)

    abbrev behind : List ℕ
    behind = drop (end + 1) (drop at text)

    next-count : count - length done ≡ suc (count - (length done + 1))
    next-count = omega (arith, more)

    opened : so-far ≡ before done (lines_from (2 + length done) (suc (count - (length done + 1))) left (piece ∷ pieces_at 10 behind))
    opened =
        ap (λ ps. before done (lines_from (2 + length done) (count - length done) left ps)) pieces
        ∙ ap (λ k. before done (lines_from (2 + length done) k left (piece ∷ pieces_at 10 behind))) next-count

    pub bad-at : line_of_words left (pieces_at 32 piece) ≡ None → so-far ≡ Err (BadLine (2 + length done))
    bad-at none = opened ∙ ap (before done) (lines-bad (2 + length done) (count - (length done + 1)) left piece behind none)

    pub line-at : (l : OutcomeLine) (new : List OutcomeLine) → line_of_words left (pieces_at 32 piece) ≡ Some l → new ≡ done ++ l ∷ []
        → so-far ≡ before new (lines_from (2 + length new) (count - length new) (left - l.times) (pieces_at 10 (drop (at + (end + 1)) text)))
    line-at l new some is =
        let size : length new ≡ length done + 1 = ap length is ∙ length-append done (l ∷ []) in
        let number : 2 + length done + 1 ≡ 2 + length new = omega (arith, size) in
        let rest : count - (length done + 1) ≡ count - length new = ap (λ k. count - k) (sym size) in
        opened
        ∙ ap (before done) (lines-step (2 + length done) (count - (length done + 1)) left piece behind l some)
        ∙ before-push done l (lines_from (2 + length done + 1) (count - (length done + 1)) (left - l.times) (pieces_at 10 behind))
        ∙ ap (λ ls. before ls (lines_from (2 + length done + 1) (count - (length done + 1)) (left - l.times) (pieces_at 10 behind))) (sym is)
        ∙ ap (λ k. before new (lines_from k (count - (length done + 1)) (left - l.times) (pieces_at 10 behind))) number
        ∙ ap (λ k. before new (lines_from (2 + length new) k (left - l.times) (pieces_at 10 behind))) rest
        ∙ ap (λ t. before new (lines_from (2 + length new) (count - length new) (left - l.times) (pieces_at 10 t))) (drop-drop (end + 1) at text)

-- ---- refusals

-- what refuses one refuses the other
pub error-of : {A B : Type 0} (a : Result A TableRefusal) (b : Result B TableRefusal) (e : TableError) → ((r : TableRefusal) → a ≡ Err r → b ≡ Err r) → IsTableError a e → IsTableError b e
error-of a b (Refused r) both is = both r is
error-of a b Memory both is = tt

pub counted-of : (pieces : List (List ℕ)) (r : Result ReadTable TableError) (P : TableError → Type 0) → MatchResult r (λ t. table_of_pieces pieces ≡ Ok (table_said t)) P → IfOk r (λ t. sum_by times t.lines.items ≡ t.runs)
counted-of pieces (Ok t) P is = table-counted pieces (table_said t) is
counted-of pieces (Err e) P is = tt
