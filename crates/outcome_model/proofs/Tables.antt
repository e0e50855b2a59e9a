-- What a table of outcomes has of the outcomes that it is made of.
-- Letters: o is an outcome, k and l are lines.
use Rattle.std.proofs.Common.{◌≡◌, ℕ, ◌+◌, zero, suc, Bool, true, false, cond, List, [], ◌∷◌, ◌++◌, refl, sym, ap, subst, ◌∙◌}
use Rattle.std.specs.List.{AllByRecursion}
use Rattle.outcome_model.specs.Table.{OutcomeLine, counted, in_order, is_outcome, placed, stands_before, table_of, tallied}

-- ---- a fact of each line

module _ (P : OutcomeLine → Type 0) where
  pub placed-all : (l : OutcomeLine) (ls : List OutcomeLine) → P l → AllByRecursion P ls → AllByRecursion P (placed l ls)
  unfolding placed
  placed-all l [] h all = (h, tt)
  placed-all l (k ∷ ks) h all =
      elim (stands_before k l) as (λ b. AllByRecursion P (cond b (k ∷ placed l ks) (l ∷ k ∷ ks))) [ true ↦ (all.0, placed-all l ks h all.1) | false ↦ (h, all) ]

  pub in_order-all : (ls : List OutcomeLine) → AllByRecursion P ls → AllByRecursion P (in_order ls)
  unfolding in_order
  in_order-all [] all = tt
  in_order-all (l ∷ ls) all = placed-all l (in_order ls) all.0 (in_order-all ls all.1)

-- ---- a fact of each outcome

module _ (P : List ℕ → Type 0) where
  counted-each : (seed : ℕ) (o : List ℕ) (ls : List OutcomeLine) → P o → AllByRecursion (λ (l : OutcomeLine). P l.outcome) ls → AllByRecursion (λ (l : OutcomeLine). P l.outcome) (counted seed o ls)
  unfolding counted
  counted-each seed o [] h all = (h, tt)
  counted-each seed o (l ∷ ls) h all =
      elim (is_outcome o l) as (λ b. AllByRecursion (λ (k : OutcomeLine). P k.outcome) (cond b (record l { times = l.times + 1 } ∷ ls) (l ∷ counted seed o ls))) [ true ↦ all | false ↦ (all.0, counted-each seed o ls h all.1) ]

  tallied-each : (seed : ℕ) (os : List (List ℕ)) (ls : List OutcomeLine) → AllByRecursion P os → AllByRecursion (λ (l : OutcomeLine). P l.outcome) ls → AllByRecursion (λ (l : OutcomeLine). P l.outcome) (tallied seed os ls)
  unfolding tallied
  tallied-each seed [] ls h all = all
  tallied-each seed (o ∷ os) ls h all = tallied-each (seed + 1) os (counted seed o ls) h.1 (counted-each seed o ls h.0 all)

  pub table-each : (first : ℕ) (os : List (List ℕ)) → AllByRecursion P os → AllByRecursion (λ (l : OutcomeLine). P l.outcome) (table_of first os)
  unfolding table_of
  table-each first os h = in_order-all (λ (l : OutcomeLine). P l.outcome) (tallied first os []) (tallied-each first os [] h tt)
