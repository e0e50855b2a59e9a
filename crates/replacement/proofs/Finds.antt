-- A search that gives the place gives the element too.
use Rattle.std.proofs.Common.{◌≡◌, ◌∙◌, ap, sym, subst, ℕ, ◌+◌, ◌<◌, ◌≤◌, ◌⊎◌, inl, inr, Bool, true, false, true≢false, nat_lt, cond, List, length, Option, Some, None, get_or, refl, arith, eq-or-lt_of_le, lt-ltb}
use Rattle.std.specs.List.{find, position, position_or_len, slice_get}
use Rattle.std.proofs.lemmas.List.Folds.{find_at}
use Rattle.std.proofs.lemmas.List.Sums.{passes_at_first, fails_before_first}
use Rattle.std.proofs.lemmas.Option.{slice_get_read, slice_get_past}
use borrow.Author.Tests.{ltb-false}

abbrev placed : Bool → ℕ → Option ℕ
placed b n = cond b (Some n) None

test_of_some : (b : Bool) (n i : ℕ) → placed b n ≡ Some i → b ≡ true
test_of_some true n i e = refl
test_of_some false n i e = cc

place_of_some : (b : Bool) (n i : ℕ) → placed b n ≡ Some i → n ≡ i
place_of_some true n i e = cc
place_of_some false n i e = cc

pub test_of_none : (b : Bool) (n : ℕ) → placed b n ≡ None → b ≡ false
test_of_none true n e = cc
test_of_none false n e = refl

-- the element at the first place that passes
pub found_at : {X : Type 0} (p : X → Bool) (xs : List X) (i : ℕ) (x : X) → position p xs ≡ Some i → i < length xs → x ≡ get_or xs i x → find p xs ≡ Some x
found_at p xs i x e h is = find_at p xs ∙ ap (slice_get xs) (place_of_some _ _ i e) ∙ slice_get_read xs (length xs) i x refl h is

-- no place, no element
pub found_none : {X : Type 0} (p : X → Bool) (xs : List X) → position p xs ≡ None → find p xs ≡ None
found_none p xs e =
    let t = test_of_none _ (position_or_len p xs) e in
    find_at p xs ∙ slice_get_past xs (position_or_len p xs) (ltb-false _ _ t)

-- a search that looks at one element after another: none before place i passes
module _ {X : Type 0} (p : X → Bool) (xs : List X) (i : ℕ) (x : X) where
  -- nor does the one there
  pub found_later : i ≤ position_or_len p xs → i < length xs → x ≡ get_or xs i x → p x ≡ false → i + 1 ≤ position_or_len p xs
  found_later before h is fails = by_cases (eq-or-lt_of_le before)
    where
      by_cases : (i ≡ position_or_len p xs) ⊎ (i < position_or_len p xs) → i + 1 ≤ position_or_len p xs
      by_cases (inl e) =
          let passes : p (get_or xs i x) ≡ true = subst (λ k. p (get_or xs k x) ≡ true) (sym e) (passes_at_first p xs x (subst (λ k. k < length xs) e h)) in
          absurd (true≢false (sym passes ∙ ap p (sym is) ∙ fails))
      by_cases (inr less) = omega (arith, less)

  -- the one there does
  pub found_here : i ≤ position_or_len p xs → i < length xs → x ≡ get_or xs i x → p x ≡ true → position p xs ≡ Some i
  found_here before h is passes = by_cases (eq-or-lt_of_le before)
    where
      by_cases : (i ≡ position_or_len p xs) ⊎ (i < position_or_len p xs) → position p xs ≡ Some i
      by_cases (inl e) = subst (λ k. cond (nat_lt k (length xs)) (Some k) None ≡ Some i) e (rw (lt-ltb i (length xs) h) refl)
      by_cases (inr less) = absurd (true≢false (sym passes ∙ ap p is ∙ fails_before_first p xs i x less))
