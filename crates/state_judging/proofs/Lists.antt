-- Lists that are made entry by entry: what each entry passes, which numbers differ, and what stands at an index.
use Rattle.std.specs.Prelude.{◌≡◌, ℕ, zero, suc, ◌+◌, Bool, true, false, not, ◌||◌, nat_eq, List, [], ◌∷◌, ◌++◌, map, replicate, slice_set, slice_index_or, Some, find, refl}
use Rattle.std.specs.List.{list_any, list_all, AllByRecursion}
use Rattle.std.proofs.Common.{sym, ap, subst, ◌∙◌, arith, cond, true≢false}
use Rattle.std.proofs.lemmas.Bool.{and_parts, eqb-true, eq-eqb, ne_eqb}
use Rattle.std.specs.Cmp.Derive.{both_true}
use Rattle.state_judging.specs.TreeModel.State.Lists.{all_from}
use Rattle.state_judging.specs.TreeModel.State.Shape.{are_distinct}
use Rattle.state_judging.proofs.TreeModel.Tests.{not-true, or-false_first, or-false_second}
use Rattle.state_judging.proofs.Searches.{each-so}

-- ---- every entry passes

module _ {X : Type 0} (t : X → Bool) where
  pub pass-replicate : (n : ℕ) (v : X) → t v ≡ true → list_all t (replicate n v) ≡ true
  pass-replicate zero v e = refl
  pass-replicate (suc n) v e = both_true e (pass-replicate n v e)

  pub pass-each : (xs : List X) → list_all t xs ≡ true → AllByRecursion (λ x. t x ≡ true) xs
  pass-each [] h = tt
  pass-each (x ∷ xs) h = ((and_parts (t x) (list_all t xs) h).0, pass-each xs (and_parts (t x) (list_all t xs) h).1)

  pub each-pass : (xs : List X) → AllByRecursion (λ x. t x ≡ true) xs → list_all t xs ≡ true
  each-pass [] h = refl
  each-pass (x ∷ xs) h = both_true h.0 (each-pass xs h.1)

module _ {X : Type 0} (s t : X → Bool) (more : (x : X) → s x ≡ true → t x ≡ true) where
  pub pass-more : (xs : List X) → list_all s xs ≡ true → list_all t xs ≡ true
  pass-more [] h = refl
  pass-more (x ∷ xs) h = both_true (more x (and_parts (s x) (list_all s xs) h).0) (pass-more xs (and_parts (s x) (list_all s xs) h).1)

-- ---- with the index of each entry; d is what stands behind the end

module _ {X : Type 0} (t : ℕ → X → Bool) (d : X) where
  all_from-each : (i : ℕ) (xs : List X) → ((j : ℕ) → t (i + j) (slice_index_or xs j d) ≡ true) → all_from t i xs ≡ true
  all_from-each i [] each = refl
  all_from-each i (x ∷ xs) each =
      let none : i + 0 ≡ i = omega arith in
      both_true (subst (λ j. t j x ≡ true) none (each 0)) (all_from-each (i + 1) xs (λ j. let same : i + suc j ≡ i + 1 + j = omega arith in subst (λ k. t k (slice_index_or xs j d) ≡ true) same (each (suc j))))

  pub all-from : (xs : List X) → ((j : ℕ) → t j (slice_index_or xs j d) ≡ true) → all_from t 0 xs ≡ true
  all-from xs each = all_from-each 0 xs (λ j. let same : j ≡ 0 + j = omega arith in subst (λ k. t k (slice_index_or xs j d) ≡ true) same (each j))

-- ---- distinct numbers

pub same-test : (a b : ℕ) → nat_eq a b ≡ nat_eq b a
same-test a b =
    elim (nat_eq a b) as (λ t. nat_eq a b ≡ t → t ≡ nat_eq b a) [
      | true ↦ λ e. sym (eq-eqb b a (sym (eqb-true a b e)))
      | false ↦ λ e. sym (ne_eqb b a (λ same. true≢false (sym (eq-eqb a b (sym same)) ∙ e)))
    ] refl

or-both : (a b : Bool) → a ≡ false → b ≡ false → (a || b) ≡ false
or-both a b first second = rw (first, second) refl

any-pushed : (k : ℕ) (ns : List ℕ) (n : ℕ) → list_any (nat_eq k) ns ≡ false → nat_eq k n ≡ false → list_any (nat_eq k) (ns ++ n ∷ []) ≡ false
any-pushed k [] n none other = or-both (nat_eq k n) false other refl
any-pushed k (m ∷ ns) n none other = or-both (nat_eq k m) _ (or-false_first (nat_eq k m) (list_any (nat_eq k) ns) none) (any-pushed k ns n (or-false_second (nat_eq k m) (list_any (nat_eq k) ns) none) other)

pub distinct-pushed : (ns : List ℕ) (n : ℕ) → are_distinct ns ≡ true → list_any (nat_eq n) ns ≡ false → are_distinct (ns ++ n ∷ []) ≡ true
distinct-pushed [] n differ none = refl
distinct-pushed (m ∷ ns) n differ none =
    let parts = and_parts (not (list_any (nat_eq m) ns)) (are_distinct ns) differ in
    let other : nat_eq m n ≡ false = same-test m n ∙ or-false_first (nat_eq n m) (list_any (nat_eq n) ns) none in
    let alone : list_any (nat_eq m) (ns ++ n ∷ []) ≡ false = any-pushed m ns n (not-true (list_any (nat_eq m) ns) parts.0) other in
    both_true (rw alone refl) (distinct-pushed ns n parts.1 (or-false_second (nat_eq n m) (list_any (nat_eq n) ns) none))

pub distinct-rest : (ms ns : List ℕ) → are_distinct (ms ++ ns) ≡ true → are_distinct ns ≡ true
distinct-rest [] ns differ = differ
distinct-rest (m ∷ ms) ns differ = distinct-rest ms ns (and_parts (not (list_any (nat_eq m) (ms ++ ns))) (are_distinct (ms ++ ns)) differ).1

any-append : (k : ℕ) (ms ns : List ℕ) → list_any (nat_eq k) (ms ++ ns) ≡ false → list_any (nat_eq k) ns ≡ false
any-append k [] ns none = none
any-append k (m ∷ ms) ns none = any-append k ms ns (or-false_second (nat_eq k m) (list_any (nat_eq k) (ms ++ ns)) none)

-- a number of the second list isn't in the first one
pub distinct-apart : (ms ns : List ℕ) (k : ℕ) → are_distinct (ms ++ ns) ≡ true → list_any (nat_eq k) ns ≡ true → list_any (nat_eq k) ms ≡ false
distinct-apart [] ns k differ there = refl
distinct-apart (m ∷ ms) ns k differ there =
    let parts = and_parts (not (list_any (nat_eq m) (ms ++ ns))) (are_distinct (ms ++ ns)) differ in
    let alone : list_any (nat_eq m) ns ≡ false = any-append m ms ns (not-true (list_any (nat_eq m) (ms ++ ns)) parts.0) in
    elim (nat_eq k m) as (λ b. nat_eq k m ≡ b → (b || list_any (nat_eq k) ms) ≡ false) [
      | true ↦ λ is. absurd (true≢false (sym there ∙ ap (λ j. list_any (nat_eq j) ns) (eqb-true k m is) ∙ alone))
      | false ↦ λ is. distinct-apart ms ns k parts.1 there
    ] refl

module _ {X : Type 0} (item : X → ℕ) (k : ℕ) where
  pub any-map : (xs : List X) → list_any (λ x. nat_eq k (item x)) xs ≡ list_any (nat_eq k) (map item xs)
  any-map [] = refl
  any-map (x ∷ xs) = ap (λ b. nat_eq k (item x) || b) (any-map xs)

or-later : (a b : Bool) → b ≡ true → (a || b) ≡ true
or-later true b e = refl
or-later false b e = e

module _ {X : Type 0} (item : X → ℕ) where
  -- each element's number is among those of the list
  pub each-there : (xs : List X) → AllByRecursion (λ x. list_any (nat_eq (item x)) (map item xs) ≡ true) xs
  each-there [] = tt
  each-there (x ∷ xs) =
      let own : nat_eq (item x) (item x) ≡ true = eq-eqb (item x) (item x) refl in
      (rw own refl, each-so (λ y. list_any (nat_eq (item y)) (map item xs) ≡ true) (λ y. list_any (nat_eq (item y)) (map item (x ∷ xs)) ≡ true) (λ y there. or-later (nat_eq (item y) (item x)) _ there) xs (each-there xs))

-- ---- searches

module _ {X : Type 0} (p : X → Bool) where
  pub find-passes : (xs : List X) (x : X) → find p xs ≡ Some x → p x ≡ true
  find-passes [] x e = cc
  find-passes (y ∷ ys) x e =
      elim (p y) as (λ b. p y ≡ b → cond b (Some y) (find p ys) ≡ Some x → p x ≡ true) [
        | true ↦ λ is e. let same : y ≡ x = cc in rw same at is
        | false ↦ λ is e. find-passes ys x e
      ] refl e
