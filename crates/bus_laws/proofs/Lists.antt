-- What passes for each element of a list passes after a change of it; and lists of distinct numbers.
use Rattle.std.proofs.Common.{◌≡◌, ◌≢◌, ℕ, zero, suc, Bool, true, false, ◌%◌, List, [], ◌∷◌, ◌++◌, length, map, Option, Some, None, refl, sym, ap, subst, ◌∙◌}
use Rattle.std.specs.Prelude.{not, ◌||◌, nat_eq, filter, option_map, slice_get, slice_set, if◌then◌else◌}
use Rattle.std.specs.List.{list_any, list_all}
use Rattle.std.specs.Cmp.Derive.{both_true}
use Rattle.std.proofs.lemmas.Bool.{and_parts, ne_eqb, eq-eqb}
use Rattle.std.proofs.lemmas.List.Elements.{filter-append}
use Rattle.bus_laws.specs.TreeModel.State.Lists.{rest_of, without_first, chosen}
use Rattle.bus_laws.specs.TreeModel.State.Shape.{are_distinct}
use Rattle.bus_laws.proofs.TreeModel.Tests.{not-true}

module _ {X : Type 0} (t : X → Bool) where
  pub pass-set : (xs : List X) (i : ℕ) (v : X) → list_all t xs ≡ true → t v ≡ true → list_all t (slice_set xs i v) ≡ true
  pass-set [] i v h e = refl
  pass-set (x ∷ xs) zero v h e = both_true e (and_parts (t x) (list_all t xs) h).1
  pass-set (x ∷ xs) (suc i) v h e = both_true (and_parts (t x) (list_all t xs) h).0 (pass-set xs i v (and_parts (t x) (list_all t xs) h).1 e)

  pub pass-pushed : (xs : List X) (v : X) → list_all t xs ≡ true → t v ≡ true → list_all t (xs ++ v ∷ []) ≡ true
  pass-pushed [] v h e = both_true e refl
  pass-pushed (x ∷ xs) v h e = both_true (and_parts (t x) (list_all t xs) h).0 (pass-pushed xs v (and_parts (t x) (list_all t xs) h).1 e)

  pub pass-rest : (xs : List X) → list_all t xs ≡ true → list_all t (rest_of xs) ≡ true
  pass-rest [] h = refl
  pass-rest (x ∷ xs) h = (and_parts (t x) (list_all t xs) h).1

  pub pass-behind : (x : X) (xs : List X) → list_all t (x ∷ xs) ≡ true → list_all t xs ≡ true
  pass-behind x xs h = (and_parts (t x) (list_all t xs) h).1

  pub pass-first : (x : X) (xs : List X) → list_all t (x ∷ xs) ≡ true → t x ≡ true
  pass-first x xs h = (and_parts (t x) (list_all t xs) h).0

  pub pass-filter : (p : X → Bool) (xs : List X) → list_all t xs ≡ true → list_all t (filter p xs) ≡ true
  pass-filter p [] h = refl
  pass-filter p (x ∷ xs) h = at (p x) (pass-filter p xs (and_parts (t x) (list_all t xs) h).1) where
    at : (b : Bool) → list_all t (filter p xs) ≡ true → list_all t (if◌then◌else◌ b (x ∷ filter p xs) (filter p xs)) ≡ true
    at true rest = both_true (and_parts (t x) (list_all t xs) h).0 rest
    at false rest = rest

  pub pass-without_first : (p : X → Bool) (xs : List X) → list_all t xs ≡ true → list_all t (without_first p xs) ≡ true
  pass-without_first p [] h = refl
  pass-without_first p (x ∷ xs) h = at (p x) (pass-without_first p xs (and_parts (t x) (list_all t xs) h).1) where
    at : (b : Bool) → list_all t (without_first p xs) ≡ true → list_all t (if◌then◌else◌ b xs (x ∷ without_first p xs)) ≡ true
    at true rest = (and_parts (t x) (list_all t xs) h).1
    at false rest = both_true (and_parts (t x) (list_all t xs) h).0 rest

  pub filter-pushed_same : (xs : List X) (v : X) → t v ≡ true → filter t (xs ++ v ∷ []) ≡ filter t xs ++ v ∷ []
  filter-pushed_same xs v e = filter-append t xs (v ∷ []) ∙ ap (λ b. filter t xs ++ if◌then◌else◌ b (v ∷ []) []) e

  pub filter-pushed_other : (xs : List X) (v : X) → t v ≡ false → filter t (xs ++ v ∷ []) ≡ filter t xs
  filter-pushed_other [] v e = ap (λ b. if◌then◌else◌ b (v ∷ []) []) e
  filter-pushed_other (x ∷ xs) v e = ap (λ ys. if◌then◌else◌ (t x) (x ∷ ys) ys) (filter-pushed_other xs v e)

-- ---- distinct numbers of elements

module _ {X : Type 0} (item : X → ℕ) where
  -- a number that no element has
  absent-first : (n k : ℕ) (xs : List X) → (nat_eq n k || list_any (nat_eq n) (map item xs)) ≡ false → (nat_eq n k ≡ false) × (list_any (nat_eq n) (map item xs) ≡ false)
  absent-first n k xs h = at (nat_eq n k) h where
    at : (c : Bool) → (c || list_any (nat_eq n) (map item xs)) ≡ false → (c ≡ false) × (list_any (nat_eq n) (map item xs) ≡ false)
    at true h = cc
    at false h = (refl, h)

  absent-filter : (n : ℕ) (p : X → Bool) (xs : List X) → list_any (nat_eq n) (map item xs) ≡ false → list_any (nat_eq n) (map item (filter p xs)) ≡ false
  absent-filter n p [] h = refl
  absent-filter n p (x ∷ xs) h = at (p x) (absent-filter n p xs (absent-first n (item x) xs h).1) where
    at : (b : Bool) → list_any (nat_eq n) (map item (filter p xs)) ≡ false → list_any (nat_eq n) (map item (if◌then◌else◌ b (x ∷ filter p xs) (filter p xs))) ≡ false
    at true rest = rw (absent-first n (item x) xs h).0 rest
    at false rest = rest

  pub distinct-filter : (p : X → Bool) (xs : List X) → are_distinct (map item xs) ≡ true → are_distinct (map item (filter p xs)) ≡ true
  distinct-filter p [] h = refl
  distinct-filter p (x ∷ xs) h =
      let rest = distinct-filter p xs (and_parts (not (list_any (nat_eq (item x)) (map item xs))) _ h).1 in
      at (p x) rest (list_any (nat_eq (item x)) (map item xs)) refl (and_parts (not (list_any (nat_eq (item x)) (map item xs))) (are_distinct (map item xs)) h).0 where
        at : (b : Bool) → are_distinct (map item (filter p xs)) ≡ true → (c : Bool) → list_any (nat_eq (item x)) (map item xs) ≡ c → not c ≡ true → are_distinct (map item (if◌then◌else◌ b (x ∷ filter p xs) (filter p xs))) ≡ true
        at true rest true e n = cc
        at true rest false e n = both_true (ap not (absent-filter (item x) p xs e)) rest
        at false rest c e n = rest

  absent-pushed : (n : ℕ) (xs : List X) (v : X) → list_any (nat_eq n) (map item xs) ≡ false → n ≢ item v → list_any (nat_eq n) (map item (xs ++ v ∷ [])) ≡ false
  absent-pushed n [] v h ne = rw (ne_eqb n (item v) ne) refl
  absent-pushed n (x ∷ xs) v h ne = rw (absent-first n (item x) xs h).0 (absent-pushed n xs v (absent-first n (item x) xs h).1 ne)

  pub distinct-pushed : (xs : List X) (v : X) → are_distinct (map item xs) ≡ true → list_all (λ x. not (nat_eq (item v) (item x))) xs ≡ true → are_distinct (map item (xs ++ v ∷ [])) ≡ true
  distinct-pushed [] v h new = refl
  distinct-pushed (x ∷ xs) v h new =
      let before = and_parts (not (list_any (nat_eq (item x)) (map item xs))) (are_distinct (map item xs)) h in
      let news = and_parts (not (nat_eq (item v) (item x))) (list_all (λ x. not (nat_eq (item v) (item x))) xs) new in
      both_true (ap not (absent-pushed (item x) xs v (not-true _ before.0) (λ e. other e news.0))) (distinct-pushed xs v before.1 news.1) where
        other : item x ≡ item v → not (nat_eq (item v) (item x)) ≡ true → ⊥
        other e n = let y : nat_eq (item v) (item x) ≡ true = eq-eqb (item v) (item x) (sym e) in cc

-- ---- an element by its index

pub pass-got : {X : Type 0} (t : X → Bool) (xs : List X) (k : ℕ) (e : X) → list_all t xs ≡ true → slice_get xs k ≡ Some e → t e ≡ true
pass-got t [] k e h got = cc
pass-got t (x ∷ xs) zero e h got =
    let same : x ≡ e = cc in
    subst (λ y. t y ≡ true) same (and_parts (t x) (list_all t xs) h).0
pass-got t (x ∷ xs) (suc k) e h got = pass-got t xs k e (and_parts (t x) (list_all t xs) h).1 got

pub chosen-get : {X : Type 0} (item : X → ℕ) (choice x : ℕ) (xs : List X) → chosen item choice xs ≡ Some x → (e : X) × ((k : ℕ) × (slice_get xs k ≡ Some e)) × (item e ≡ x)
chosen-get item choice x [] h = cc
chosen-get item choice x (e ∷ es) h = at (slice_get (e ∷ es) (choice % length (e ∷ es))) refl h where
  at : (o : Option _) → slice_get (e ∷ es) (choice % length (e ∷ es)) ≡ o → option_map item o ≡ Some x → (f : _) × ((k : ℕ) × (slice_get (e ∷ es) k ≡ Some f)) × (item f ≡ x)
  at None is h = cc
  at (Some f) is h = (f, (choice % length (e ∷ es), is), (let same : item f ≡ x = cc in same))
