-- The tables of ranges of seeds that follow one another, put together, are the table of the whole range.
-- Letters: o and p are outcomes, os several, r is a run.
use Rattle.std.proofs.Common.{◌≡◌, ℕ, zero, suc, ◌+◌, inl, inr, cond, List, [], ◌∷◌, ◌++◌, length, Some, refl, sym, ap, subst, ◌∙◌, arith}
use Rattle.std.specs.Prelude.{nat_eq, slice_get, count_by}
use Rattle.std.specs.List.{AllByRecursion}
use Rattle.std.specs.Cmp.Lexicographic.{pointwise}
use Rattle.std.proofs.lemmas.List.Sums.{sum_by-cons}
use Rattle.outcome_model.specs.Table.{OutcomeLine, table_of}
use Rattle.outcome_model.specs.TableLaws.{Gave, IsLine}
use Rattle.outcome_model.proofs.TableLaws.{tables-right}
use Rattle.join_model.specs.Joined.{joined}
use Rattle.join_model.specs.JoinLaws.{AreTables, HasOneOutcome, IsLineOf, IsTableOf, Ran, RangesThatFollow, SeedRun, all_outcomes, all_runs, tables_from, times_of}
use Rattle.join_model.proofs.Joining.{joined-right}
use Rattle.join_model.proofs.OneTable.{one-table}

-- the runs of seeds from the first on, with these outcomes
unfoldable pub runs_from : ℕ → List (List ℕ) → List SeedRun
runs_from first [] = []
runs_from first (o ∷ os) = record { seed = first; outcome = o } ∷ runs_from (first + 1) os

-- ---- what ran and what was given

ran-place : (first : ℕ) (os : List (List ℕ)) (place : ℕ) (o : List ℕ) → slice_get os place ≡ Some o → Ran (runs_from first os) (first + place) o
unfolding runs_from
ran-place first [] place o there = let wrong : ⊥ = cc in absurd wrong
ran-place first (p ∷ os) zero o there = inl (omega arith, let same : p ≡ o = cc in same)
ran-place first (p ∷ os) (suc place) o there = inr (subst (λ n. Ran (runs_from (first + 1) os) n o) (omega arith) (ran-place (first + 1) os place o there))

gave-ran : (first : ℕ) (os : List (List ℕ)) (seed : ℕ) (o : List ℕ) → Gave first os seed o → Ran (runs_from first os) seed o
gave-ran first os seed o g = subst (λ n. Ran (runs_from first os) n o) (sym g.seed_is) (ran-place first os g.place o g.there)

ran-gave : (first : ℕ) (os : List (List ℕ)) (seed : ℕ) (o : List ℕ) → Ran (runs_from first os) seed o → Gave first os seed o
unfolding runs_from
ran-gave first [] seed o ran = absurd ran
ran-gave first (p ∷ os) seed o (inl here) = record { place = 0; seed_is = (let at = here.0 in omega (arith, at)); there = ap Some here.1 }
ran-gave first (p ∷ os) seed o (inr later) =
    let rest = ran-gave (first + 1) os seed o later in
    record { place = suc rest.place; seed_is = (let at = rest.seed_is in omega (arith, at)); there = rest.there }

times-same : (first : ℕ) (os : List (List ℕ)) (o : List ℕ) → times_of (runs_from first os) o ≡ count_by (pointwise nat_eq o) os
unfolding runs_from times_of
times-same first [] o = refl
times-same first (p ∷ os) o = ap (λ n. cond (pointwise nat_eq o p) 1 0 + n) (times-same (first + 1) os o) ∙ sym (sum_by-cons (λ r. cond (pointwise nat_eq o r) 1 0) p os)

one-outcome : (first : ℕ) (os : List (List ℕ)) → HasOneOutcome (runs_from first os)
one-outcome first os seed o p a b =
    let x = ran-gave first os seed o a in
    let y = ran-gave first os seed p b in
    let place : x.place ≡ y.place = (let at = x.seed_is in let also = y.seed_is in omega (arith, at, also)) in
    let there : slice_get os y.place ≡ Some o = subst (λ n. slice_get os n ≡ Some o) place x.there in
    let same : Some o ≡ Some p = sym there ∙ y.there in
    cc

-- ---- tables

module _ (first : ℕ) (os : List (List ℕ)) where
  line-same : (l : OutcomeLine) → IsLine first os l → IsLineOf (runs_from first os) l
  line-same l is = record {
    times = is.times ∙ sym (times-same first os l.outcome);
    seed = gave-ran first os l.seed l.outcome is.seed;
    smallest = λ seed ran. is.smallest seed (ran-gave first os seed l.outcome ran);
  }

  lines-same : (ls : List OutcomeLine) → AllByRecursion (IsLine first os) ls → AllByRecursion (IsLineOf (runs_from first os)) ls
  lines-same [] all = tt
  lines-same (l ∷ ls) all = (line-same l all.0, lines-same ls all.1)

  table-is : IsTableOf (runs_from first os) (table_of first os)
  table-is =
      let is = tables-right first os in
      record {
        lines = lines-same (table_of first os) is.lines;
        listed = λ seed o ran. is.listed seed o (ran-gave first os seed o ran);
        different = is.different;
        ordered = is.ordered;
      }

-- ---- ranges

runs-of-ranges : ℕ → List (List (List ℕ)) → List (List SeedRun)
runs-of-ranges first [] = []
runs-of-ranges first (os ∷ more) = runs_from first os ∷ runs-of-ranges (first + length os) more

tables-are : (first : ℕ) (ranges : List (List (List ℕ))) → AreTables (runs-of-ranges first ranges) (tables_from first ranges)
unfolding runs-of-ranges tables_from
tables-are first [] = tt
tables-are first (os ∷ more) = (table-is first os, tables-are (first + length os) more)

runs-append : (first : ℕ) (os more : List (List ℕ)) → runs_from first (os ++ more) ≡ runs_from first os ++ runs_from (first + length os) more
unfolding runs_from
runs-append first [] more = ap (λ n. runs_from n more) (omega arith)
runs-append first (o ∷ os) more =
    ap (λ rs. record { seed = first; outcome = o } ∷ rs) (runs-append (first + 1) os more ∙ ap (λ n. runs_from (first + 1) os ++ runs_from n more) (omega arith))

no-runs : (first : ℕ) → [] ≡ runs_from first []
unfolding runs_from
no-runs first = refl

all-runs-of : (first : ℕ) (ranges : List (List (List ℕ))) → all_runs (runs-of-ranges first ranges) ≡ runs_from first (all_outcomes ranges)
unfolding runs-of-ranges all_runs all_outcomes
all-runs-of first [] = no-runs first
all-runs-of first (os ∷ more) = ap (λ rs. runs_from first os ++ rs) (all-runs-of (first + length os) more) ∙ sym (runs-append first os (all_outcomes more))

pub ranges-follow : RangesThatFollow
ranges-follow first ranges =
    let runs = runs_from first (all_outcomes ranges) in
    let all : IsTableOf runs (joined (tables_from first ranges)) = subst (λ rs. IsTableOf rs (joined (tables_from first ranges))) (all-runs-of first ranges) (joined-right (runs-of-ranges first ranges) (tables_from first ranges) (tables-are first ranges)) in
    one-table runs (one-outcome first (all_outcomes ranges)) (joined (tables_from first ranges)) (table_of first (all_outcomes ranges)) all (table-is first (all_outcomes ranges))
