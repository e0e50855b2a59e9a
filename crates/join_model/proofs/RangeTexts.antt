-- The texts of ranges of seeds that follow one another.
-- Letters: o is an outcome, l is a line.
use Rattle.std.proofs.Common.{◌≡◌, ℕ, ◌+◌, ◌<◌, ◌≤◌, true, false, cond, List, [], ◌∷◌, length, map, Ok, refl, sym, ap, subst, ◌∙◌, arith}
use Rattle.std.specs.Prelude.{sum_by}
use Rattle.std.specs.List.{AllByRecursion}
use Rattle.std.proofs.lemmas.List.{length-append}
use Rattle.std.proofs.lemmas.List.Sums.{sum_by-cons}
use Rattle.outcome_model.specs.Table.{OutcomeLine, counted, in_order, is_outcome, placed, stands_before, table_of, tallied}
use Rattle.outcome_model.proofs.Tables.{in_order-all, table-each}
use Rattle.join_model.specs.Joined.{joined}
use Rattle.join_model.specs.JoinLaws.{all_outcomes, tables_from}
use Rattle.join_model.specs.Table.{most_bytes, most_number, text_of}
use Rattle.join_model.specs.Files.{joined_text}
use Rattle.join_model.specs.TextLaws.{AreShort, IsOutcomeText, IsPrintedAs, IsPrintedLine, JoinedRanges, range_table, range_tables}
use Rattle.join_model.specs.declared.table.TableKind.{TableKind}
use Rattle.join_model.proofs.Ranges.{ranges-follow}
use Rattle.join_model.proofs.ReadBack.{times}
use Rattle.join_model.proofs.Summed.{lines_of, runs_of, texts-joined}

-- ---- how many runs the lines of a range count, and their seeds

-- a line of one run or more, with a seed below this one
record IsBelow (bound : ℕ) (l : OutcomeLine) : Type 0 where
  some : 1 ≤ l.times
  below : l.seed < bound

counted-below : (bound seed : ℕ) (o : List ℕ) (ls : List OutcomeLine) → seed < bound → AllByRecursion (IsBelow bound) ls → AllByRecursion (IsBelow bound) (counted seed o ls)
unfolding counted
counted-below bound seed o [] below all = (record { some = omega arith; below = below }, tt)
counted-below bound seed o (l ∷ ls) below all =
    elim (is_outcome o l) as (λ b. AllByRecursion (IsBelow bound) (cond b (record l { times = l.times + 1 } ∷ ls) (l ∷ counted seed o ls))) [
      | true ↦ (record { some = omega arith; below = all.0.below }, all.1)
      | false ↦ (all.0, counted-below bound seed o ls below all.1)
    ]

tallied-below : (bound seed : ℕ) (os : List (List ℕ)) (ls : List OutcomeLine) → seed + length os ≤ bound → AllByRecursion (IsBelow bound) ls → AllByRecursion (IsBelow bound) (tallied seed os ls)
unfolding tallied
tallied-below bound seed [] ls within all = all
tallied-below bound seed (o ∷ os) ls within all = tallied-below bound (seed + 1) os (counted seed o ls) (omega (arith, within)) (counted-below bound seed o ls (omega (arith, within)) all)

counted-times : (seed : ℕ) (o : List ℕ) (ls : List OutcomeLine) → sum_by times (counted seed o ls) ≡ sum_by times ls + 1
unfolding counted
counted-times seed o [] = refl
counted-times seed o (l ∷ ls) =
    elim (is_outcome o l) as (λ b. sum_by times (cond b (record l { times = l.times + 1 } ∷ ls) (l ∷ counted seed o ls)) ≡ sum_by times (l ∷ ls) + 1) [
      | true ↦ (let before = sum_by-cons times l ls in let after = sum_by-cons times (record l { times = l.times + 1 }) ls in omega (arith, before, after))
      | false ↦ (let before = sum_by-cons times l ls in let after = sum_by-cons times l (counted seed o ls) in let rest = counted-times seed o ls in omega (arith, before, after, rest))
    ]

tallied-times : (seed : ℕ) (os : List (List ℕ)) (ls : List OutcomeLine) → sum_by times (tallied seed os ls) ≡ sum_by times ls + length os
unfolding tallied
tallied-times seed [] ls = omega arith
tallied-times seed (o ∷ os) ls = (let one = counted-times seed o ls in let rest = tallied-times (seed + 1) os (counted seed o ls) in omega (arith, one, rest))

placed-times : (l : OutcomeLine) (ls : List OutcomeLine) → sum_by times (placed l ls) ≡ l.times + sum_by times ls
unfolding placed
placed-times l [] = sum_by-cons times l []
placed-times l (k ∷ ks) =
    elim (stands_before k l) as (λ b. sum_by times (cond b (k ∷ placed l ks) (l ∷ k ∷ ks)) ≡ l.times + sum_by times (k ∷ ks)) [
      | true ↦ (let before = sum_by-cons times k ks in let after = sum_by-cons times k (placed l ks) in let rest = placed-times l ks in omega (arith, before, after, rest))
      | false ↦ sum_by-cons times l (k ∷ ks)
    ]

pub in_order-times : (ls : List OutcomeLine) → sum_by times (in_order ls) ≡ sum_by times ls
unfolding in_order
in_order-times [] = refl
in_order-times (l ∷ ls) = (let one = placed-times l (in_order ls) in let rest = in_order-times ls in let total = sum_by-cons times l ls in omega (arith, one, rest, total))

table-times : (first : ℕ) (os : List (List ℕ)) → sum_by times (table_of first os) ≡ length os
unfolding table_of
table-times first os = (let order = in_order-times (tallied first os []) in let total = tallied-times first os [] in omega (arith, order, total))

table-below : (first : ℕ) (os : List (List ℕ)) → AllByRecursion (IsBelow (first + length os)) (table_of first os)
unfolding table_of
table-below first os = in_order-all (IsBelow (first + length os)) (tallied first os []) (tallied-below (first + length os) first os [] (omega arith) tt)

printed-lines : (bound : ℕ) (ls : List OutcomeLine) → bound ≤ most_number + 1 → AllByRecursion (IsBelow bound) ls → AllByRecursion (λ (l : OutcomeLine). IsOutcomeText l.outcome) ls → AllByRecursion IsPrintedLine ls
printed-lines bound [] small below texts = tt
printed-lines bound (l ∷ ls) small below texts =
    (record { some = below.0.some; seed = (let under = below.0.below in omega (arith, under, small)); outcome = texts.0 }, printed-lines bound ls small below.1 texts.1)

-- ---- a range is printed

range-printed : (kind : TableKind) (first : ℕ) (os : List (List ℕ)) → AllByRecursion IsOutcomeText os → first + length os ≤ most_number + 1 → length os ≤ most_number → length (text_of (range_table kind first os)) ≤ most_bytes → IsPrintedAs kind (range_table kind first os)
range-printed kind first os texts small few short = record {
  kind_is = refl;
  printed = record {
    lines = printed-lines (first + length os) (table_of first os) small (table-below first os) (table-each IsOutcomeText first os texts);
    each = table-times first os;
    runs = few;
    short = short;
  };
}

ranges-printed : (kind : TableKind) (first : ℕ) (ranges : List (List (List ℕ))) → AllByRecursion (AllByRecursion IsOutcomeText) ranges → first + length (all_outcomes ranges) ≤ most_number + 1 → length (all_outcomes ranges) ≤ most_number → AreShort (range_tables kind first ranges) → AllByRecursion (IsPrintedAs kind) (range_tables kind first ranges)
unfolding range_tables all_outcomes
ranges-printed kind first [] texts small few short = tt
ranges-printed kind first (os ∷ more) texts small few short =
    let both = length-append os (all_outcomes more) in
    (range-printed kind first os texts.0 (omega (arith, both, small)) (omega (arith, both, few)) short.0, ranges-printed kind (first + length os) more texts.1 (omega (arith, both, small)) (omega (arith, both, few)) short.1)

ranges-runs : (kind : TableKind) (first : ℕ) (ranges : List (List (List ℕ))) → sum_by runs_of (range_tables kind first ranges) ≡ length (all_outcomes ranges)
unfolding range_tables all_outcomes
ranges-runs kind first [] = refl
ranges-runs kind first (os ∷ more) =
    (let both = length-append os (all_outcomes more) in let one = sum_by-cons runs_of (range_table kind first os) (range_tables kind (first + length os) more) in let rest = ranges-runs kind (first + length os) more in omega (arith, both, one, rest))

ranges-lines : (kind : TableKind) (first : ℕ) (ranges : List (List (List ℕ))) → map lines_of (range_tables kind first ranges) ≡ tables_from first ranges
unfolding range_tables tables_from
ranges-lines kind first [] = refl
ranges-lines kind first (os ∷ more) = ap (λ ts. table_of first os ∷ ts) (ranges-lines kind (first + length os) more)

one-and-more : (kind : TableKind) (first : ℕ) (os : List (List ℕ)) (more : List (List (List ℕ))) → range_tables kind first (os ∷ more) ≡ range_table kind first os ∷ range_tables kind (first + length os) more
unfolding range_tables
one-and-more kind first os more = refl

pub joined-ranges : JoinedRanges
joined-ranges kind first os more texts small few short =
    let ranges = os ∷ more in
    let t = range_table kind first os in
    let ts = range_tables kind (first + length os) more in
    let is : range_tables kind first ranges ≡ t ∷ ts = one-and-more kind first os more in
    let runs : sum_by runs_of (t ∷ ts) ≡ length (all_outcomes ranges) = ap (sum_by runs_of) (sym is) ∙ ranges-runs kind first ranges in
    let lines : joined (map lines_of (t ∷ ts)) ≡ table_of first (all_outcomes ranges) = ap (λ us. joined (map lines_of us)) (sym is) ∙ ap joined (ranges-lines kind first ranges) ∙ ranges-follow first ranges in
    ap (λ us. joined_text (map text_of us)) is
    ∙ texts-joined kind t ts (subst (λ us. AllByRecursion (IsPrintedAs kind) us) is (ranges-printed kind first ranges texts small few short)) (omega (arith, runs, few))
    ∙ ap (λ n. Ok (text_of (record { kind = kind; runs = n; lines = joined (map lines_of (t ∷ ts)) }))) runs
    ∙ ap (λ ls. Ok (text_of (record { kind = kind; runs = length (all_outcomes ranges); lines = ls }))) lines
