-- What passes for every rule of a list, and for every number below a bound.
use Rattle.std.specs.Prelude.{◌≡◌, ℕ, zero, suc, ◌+◌, ◌<◌, ◌≤◌, Bool, true, List, [], ◌∷◌, slice_get, IfSome, refl}
use Rattle.std.specs.List.{list_all, range_with_len}
use Rattle.std.proofs.Common.{arith, subst, inl, inr}
use Rattle.std.proofs.lemmas.Bool.Decides.{eqb_tells}
use Rattle.std.proofs.lemmas.Bool.{and_parts}
use Rattle.std.specs.Cmp.Derive.{both_true}

module _ {X : Type 0} (t : X → Bool) where
  -- the element at an index, if there is one, passes
  pub passes-at : (xs : List X) (k : ℕ) → list_all t xs ≡ true → IfSome (slice_get xs k) (λ x. t x ≡ true)
  passes-at [] k h = tt
  passes-at (x ∷ xs) zero h = (and_parts (t x) (list_all t xs) h).0
  passes-at (x ∷ xs) (suc k) h = passes-at xs k (and_parts (t x) (list_all t xs) h).1

  pub all-pass : (xs : List X) → ((x : X) → t x ≡ true) → list_all t xs ≡ true
  all-pass [] h = refl
  all-pass (x ∷ xs) h = both_true (h x) (all-pass xs h)

range-at : (test : ℕ → Bool) (n a x : ℕ) → list_all test (range_with_len a n) ≡ true → a ≤ x → x < a + n → test x ≡ true
range-at test zero a x h low high = absurd (let no : ⊥ = omega arith in no)
range-at test (suc n) a x h low high =
    let parts : (test a ≡ true) × (list_all test (range_with_len (a + 1) n) ≡ true) = and_parts (test a) (list_all test (range_with_len (a + 1) n)) h in
    elim (eqb_tells a x) [
      | inl same ↦ subst (λ y. test y ≡ true) same.1 parts.0
      | inr other ↦ range-at test n (a + 1) x parts.1 (above other.1) (omega arith)
    ] where
      above : (a ≡ x → ⊥) → a + 1 ≤ x
      above e = omega arith

range-each : (test : ℕ → Bool) (n a : ℕ) → ((x : ℕ) → a ≤ x → x < a + n → test x ≡ true) → list_all test (range_with_len a n) ≡ true
range-each test zero a h = refl
range-each test (suc n) a h = both_true (h a (omega arith) (omega arith)) (range-each test n (a + 1) (λ x low high. h x (omega arith) (omega arith)))

pub each-from_range : (test : ℕ → Bool) (n : ℕ) → list_all test (range_with_len 0 n) ≡ true → (x : ℕ) → x < n → test x ≡ true
each-from_range test n h x high = range-at test n 0 x h (omega arith) (omega arith)

pub range-from_each : (test : ℕ → Bool) (n : ℕ) → ((x : ℕ) → x < n → test x ≡ true) → list_all test (range_with_len 0 n) ≡ true
range-from_each test n h = range-each test n 0 (λ x low high. h x (omega arith))
