-- Tables put together are the table of all their runs.
-- Letters: r is a run, o an outcome, k and l are lines, t is a table.
use Rattle.std.proofs.Common.{◌≡◌, ℕ, ◌+◌, ◌≤◌, ◌⊎◌, inl, inr, Bool, true, false, cond, ◌||◌, min, List, [], ◌∷◌, ◌++◌, Option, Some, None, refl, sym, ap, subst, ◌∙◌, arith, append_assoc}
use Rattle.std.specs.Prelude.{nat_eq}
use Rattle.std.specs.List.{AllByRecursion, list_any}
use Rattle.std.specs.Cmp.Lexicographic.{pointwise}
use Rattle.std.proofs.Math.Nat.{min-eq_left, min-eq_right}
use Rattle.std.proofs.lemmas.Bool.{cases_lt}
use Rattle.std.proofs.lemmas.List.{append-nil}
use Rattle.outcome_model.specs.Table.{OutcomeLine, is_outcome}
use Rattle.outcome_model.specs.TableLaws.{AreDifferent}
use Rattle.outcome_model.proofs.TableLaws.{in_order-any, in_order-different, in_order-ordered, own-text, same-text}
use Rattle.outcome_model.proofs.Tables.{in_order-all}
use Rattle.join_model.specs.Joined.{joined, with_more, with_table, with_tables}
use Rattle.join_model.specs.JoinLaws.{AreTables, IsLineOf, IsTableOf, JoinedTablesAreRight, Ran, SeedRun, all_runs, times_of}
use Rattle.join_model.proofs.Found.{found, found-table, merged, table-different}

-- ---- runs of two lists

pub ran-left : (rs more : List SeedRun) (seed : ℕ) (o : List ℕ) → Ran rs seed o → Ran (rs ++ more) seed o
ran-left [] more seed o h = absurd h
ran-left (r ∷ rs) more seed o (inl here) = inl here
ran-left (r ∷ rs) more seed o (inr later) = inr (ran-left rs more seed o later)

pub ran-right : (rs more : List SeedRun) (seed : ℕ) (o : List ℕ) → Ran more seed o → Ran (rs ++ more) seed o
ran-right [] more seed o h = h
ran-right (r ∷ rs) more seed o h = inr (ran-right rs more seed o h)

pub ran-where : (rs more : List SeedRun) (seed : ℕ) (o : List ℕ) → Ran (rs ++ more) seed o → Ran rs seed o ⊎ Ran more seed o
ran-where [] more seed o h = inr h
ran-where (r ∷ rs) more seed o (inl here) = inl (inl here)
ran-where (r ∷ rs) more seed o (inr later) = elim (ran-where rs more seed o later) [ inl first ↦ inl (inr first) | inr second ↦ inr second ]

times-both : (rs more : List SeedRun) (o : List ℕ) → times_of (rs ++ more) o ≡ times_of rs o + times_of more o
unfolding times_of
times-both [] more o = omega arith
times-both (r ∷ rs) more o = let rest = times-both rs more o in omega (arith, rest)

times-none : (rs : List SeedRun) (o : List ℕ) → ((seed : ℕ) → Ran rs seed o → ⊥) → times_of rs o ≡ 0
unfolding times_of
times-none [] o never = refl
times-none (r ∷ rs) o never =
    elim (pointwise nat_eq o r.outcome) as (λ b. pointwise nat_eq o r.outcome ≡ b → cond b 1 0 + times_of rs o ≡ 0) [
      | true ↦ λ own. absurd (never r.seed (inl (refl, sym (same-text o r.outcome own))))
      | false ↦ λ other. (let rest = times-none rs o (λ seed ran. never seed (inr ran)) in omega (arith, rest))
    ] refl

-- ---- what the line of an outcome tells of runs

module _ (runs : List SeedRun) where
  pub record Tells (o : List ℕ) (l : OutcomeLine) : Type 0 where
    pub outcome : l.outcome ≡ o
    pub times : l.times ≡ times_of runs o
    pub seed : Ran runs l.seed o
    pub smallest : (seed : ℕ) → Ran runs seed o → l.seed ≤ seed

  abbrev pub Fits : List ℕ → Option OutcomeLine → Type 0
  Fits o None = (seed : ℕ) → Ran runs seed o → ⊥
  Fits o (Some l) = Tells o l

module _ (rs more : List SeedRun) (o : List ℕ) where
  merged-fits : (a b : Option OutcomeLine) → Fits rs o a → Fits more o b → Fits (rs ++ more) o (merged a b)
  merged-fits None None first second = λ seed ran. elim (ran-where rs more seed o ran) [ inl r ↦ first seed r | inr r ↦ second seed r ]
  merged-fits None (Some l) first second = record {
    outcome = second.outcome;
    times = (let both = times-both rs more o in let none = times-none rs o first in omega (arith, second.times, both, none));
    seed = ran-right rs more l.seed o second.seed;
    smallest = λ seed ran. elim (ran-where rs more seed o ran) [ inl r ↦ absurd (first seed r) | inr r ↦ second.smallest seed r ];
  }
  merged-fits (Some k) None first second = record {
    outcome = first.outcome;
    times = (let both = times-both rs more o in let none = times-none more o second in omega (arith, first.times, both, none));
    seed = ran-left rs more k.seed o first.seed;
    smallest = λ seed ran. elim (ran-where rs more seed o ran) [ inl r ↦ first.smallest seed r | inr r ↦ absurd (second seed r) ];
  }
  merged-fits (Some k) (Some l) first second = elim (cases_lt k.seed l.seed) [
    | inl less ↦ fits k.seed (min-eq_left (omega (arith, less))) (ran-left rs more k.seed o first.seed) (omega arith) (omega (arith, less))
    | inr back ↦ fits l.seed (min-eq_right back) (ran-right rs more l.seed o second.seed) back (omega arith)
  ]
    where
      fits : (least : ℕ) → min k.seed l.seed ≡ least → Ran (rs ++ more) least o → least ≤ k.seed → least ≤ l.seed → Tells (rs ++ more) o (with_more l k)
      fits least is ran below-k below-l = record {
        outcome = first.outcome;
        times = (let both = times-both rs more o in omega (arith, first.times, second.times, both));
        seed = subst (λ n. Ran (rs ++ more) n o) (sym is) ran;
        smallest = λ seed r. elim (ran-where rs more seed o r) [
          | inl one ↦ (let low = first.smallest seed one in omega (arith, is, below-k, low))
          | inr other ↦ (let low = second.smallest seed other in omega (arith, is, below-l, low))
        ];
      }

-- ---- tables and what is found in them

found-fits : (runs : List SeedRun) (ls : List OutcomeLine) (o : List ℕ) → AllByRecursion (IsLineOf runs) ls → (found o ls ≡ None → (seed : ℕ) → Ran runs seed o → ⊥) → Fits runs o (found o ls)
unfolding found
found-fits runs [] o all never = never refl
found-fits runs (l ∷ ls) o all never =
    elim (is_outcome o l) as (λ b. is_outcome o l ≡ b → (cond b (Some l) (found o ls) ≡ None → (seed : ℕ) → Ran runs seed o → ⊥) → Fits runs o (cond b (Some l) (found o ls))) [
      | true ↦ λ here no. (let same : l.outcome ≡ o = same-text l.outcome o here in record {
        outcome = same;
        times = subst (λ p. l.times ≡ times_of runs p) same all.0.times;
        seed = subst (λ p. Ran runs l.seed p) same all.0.seed;
        smallest = λ seed ran. all.0.smallest seed (subst (λ p. Ran runs seed p) (sym same) ran);
      })
      | false ↦ λ elsewhere no. found-fits runs ls o all.1 no
    ] refl never

listed-found : (ls : List OutcomeLine) (o : List ℕ) → list_any (is_outcome o) ls ≡ true → found o ls ≡ None → ⊥
unfolding found
listed-found [] o h none = let wrong : ⊥ = cc in wrong
listed-found (l ∷ ls) o h none =
    elim (is_outcome o l) as (λ b. (b || list_any (is_outcome o) ls) ≡ true → cond b (Some l) (found o ls) ≡ None → ⊥) [
      | true ↦ λ e is. let wrong : ⊥ = cc in wrong
      | false ↦ λ e is. listed-found ls o e is
    ] h none

table-fits : (runs : List SeedRun) (t : List OutcomeLine) (o : List ℕ) → IsTableOf runs t → Fits runs o (found o t)
table-fits runs t o is = found-fits runs t o is.lines (λ none seed ran. listed-found t o (is.listed seed o ran) none)

-- what is found tells of each line
line-found : (l : OutcomeLine) (ls : List OutcomeLine) → found l.outcome (l ∷ ls) ≡ Some l
unfolding found
line-found l ls = ap (λ b. cond b (Some l) (found l.outcome ls)) (own-text l.outcome)

fits-listed : (runs : List SeedRun) (ls : List OutcomeLine) (seed : ℕ) (o : List ℕ) → Fits runs o (found o ls) → Ran runs seed o → list_any (is_outcome o) ls ≡ true
unfolding found
fits-listed runs [] seed o fits ran = absurd (fits seed ran)
fits-listed runs (l ∷ ls) seed o fits ran =
    elim (is_outcome o l) as (λ b. Fits runs o (cond b (Some l) (found o ls)) → (b || list_any (is_outcome o) ls) ≡ true) [
      | true ↦ λ f. refl
      | false ↦ λ f. fits-listed runs ls seed o f ran
    ] fits

fits-lines : (runs : List SeedRun) (ls : List OutcomeLine) → AreDifferent ls → ((o : List ℕ) → list_any (is_outcome o) ls ≡ true → Fits runs o (found o ls)) → AllByRecursion (IsLineOf runs) ls
unfolding found
fits-lines runs [] different fits = tt
fits-lines runs (l ∷ ls) different fits = (line (subst (λ a. Fits runs l.outcome a) (line-found l ls) (fits l.outcome own-listed)), fits-lines runs ls different.1 rest)
  where
    own-listed : (is_outcome l.outcome l || list_any (is_outcome l.outcome) ls) ≡ true
    own-listed = ap (λ b. b || list_any (is_outcome l.outcome) ls) (own-text l.outcome)

    line : Tells runs l.outcome l → IsLineOf runs l
    line f = record { times = f.times; seed = f.seed; smallest = f.smallest }

    rest : (o : List ℕ) → list_any (is_outcome o) ls ≡ true → Fits runs o (found o ls)
    rest o listed =
        elim (is_outcome o l) as (λ b. is_outcome o l ≡ b → Fits runs o (cond b (Some l) (found o ls)) → Fits runs o (found o ls)) [
          | true ↦ λ here f. absurd (let none : list_any (is_outcome o) ls ≡ false = subst (λ p. list_any (is_outcome p) ls ≡ false) (same-text l.outcome o here) different.0 in let wrong : ⊥ = cc in wrong)
          | false ↦ λ elsewhere f. f
        ] refl (fits o (or-right (is_outcome o l) (list_any (is_outcome o) ls) listed))
      where
        or-right : (a b : Bool) → b ≡ true → (a || b) ≡ true
        or-right true b h = refl
        or-right false b h = h

-- ---- all tables

pub record IsTally (runs : List SeedRun) (ls : List OutcomeLine) : Type 0 where
  pub fits : (o : List ℕ) → Fits runs o (found o ls)
  pub different : AreDifferent ls

one-more : (rs more : List SeedRun) (t ls : List OutcomeLine) → IsTally rs ls → IsTableOf more t → IsTally (rs ++ more) (with_table t ls)
one-more rs more t ls is table = record {
  fits = λ o. subst (λ a. Fits (rs ++ more) o a) (sym (found-table o t ls table.different)) (merged-fits rs more o (found o ls) (found o t) (is.fits o) (table-fits more t o table));
  different = table-different t ls is.different;
}

all-more : (rs : List SeedRun) (ls : List OutcomeLine) (runs : List (List SeedRun)) (ts : List (List OutcomeLine)) → IsTally rs ls → AreTables runs ts → IsTally (rs ++ all_runs runs) (with_tables ts ls)
unfolding all_runs with_tables
all-more rs ls [] [] is tables = subst (λ qs. IsTally qs ls) (sym (append-nil rs)) is
all-more rs ls [] (t ∷ ts) is tables = absurd tables
all-more rs ls (more ∷ runs) [] is tables = absurd tables
all-more rs ls (more ∷ runs) (t ∷ ts) is tables =
    subst (λ qs. IsTally qs (with_tables ts (with_table t ls))) (append_assoc rs more (all_runs runs)) (all-more (rs ++ more) (with_table t ls) runs ts (one-more rs more t ls is tables.0) tables.1)

no-tally : IsTally [] []
unfolding found
no-tally = record { fits = λ o seed ran. ran; different = tt }

pub joined-right : JoinedTablesAreRight
unfolding joined
joined-right runs tables are =
    let is = all-more [] [] runs tables no-tally are in
    let ls = with_tables tables [] in
    record {
      lines = in_order-all (IsLineOf (all_runs runs)) ls (fits-lines (all_runs runs) ls is.different (λ o listed. is.fits o));
      listed = λ seed o ran. in_order-any (is_outcome o) ls ∙ fits-listed (all_runs runs) ls seed o (is.fits o) ran;
      different = in_order-different ls is.different;
      ordered = in_order-ordered ls;
    }
