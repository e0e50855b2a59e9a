-- Ascending lists of numbers: which numbers a list has, and that these determine it.
use Rattle.std.proofs.Common.{◌≡◌, ◌≢◌, ℕ, suc, zero, ◌+◌, ◌<◌, ◌≤◌, Bool, true, false, ◌||◌, ◌&&◌, eqb, ltb, leb, List, [], ◌∷◌, ◌++◌, refl, sym, ◌∙◌, inl, inr, arith}
use Rattle.std.specs.List.{fold, range_with_len}
use Rattle.std.proofs.lemmas.Bool.{cases_order, cases_eq, cond-true, cond-false, eq-eqb, ne_eqb, lt-ltb, le-ltb}
use Rattle.std.proofs.lemmas.Bool.Decides.{nat_tests}
use Rattle.ddm_types.specs.ItemTable.{with_number}

-- the list has the number
abbrev pub has : ℕ → List ℕ → Bool
has n [] = false
has n (m ∷ ms) = eqb n m || has n ms

-- each number is n or above
abbrev pub AreFrom : ℕ → List ℕ → Type 0
AreFrom n [] = Unit {0}
AreFrom n (m ∷ ms) = (n ≤ m) × AreFrom n ms

-- the numbers ascend, and none comes twice
abbrev pub IsAscending : List ℕ → Type 0
IsAscending [] = Unit {0}
IsAscending (m ∷ ms) = AreFrom (m + 1) ms × IsAscending ms

pub from-weaker : (m n : ℕ) (ms : List ℕ) → m ≤ n → AreFrom n ms → AreFrom m ms
from-weaker m n [] h a = tt
from-weaker m n (k ∷ ks) h a = (omega (arith, a.0), from-weaker m n ks h a.1)

pub has_below : (n k : ℕ) (ms : List ℕ) → k < n → AreFrom n ms → has k ms ≡ false
has_below n k [] h a = refl
has_below n k (m ∷ ms) h a =
    let ne : k ≢ m = omega (arith, a.0) in
    rw (ne_eqb k m ne) (has_below n k ms h a.1)

has-here : (m : ℕ) (ms : List ℕ) → has m (m ∷ ms) ≡ true
has-here m ms = rw (eq-eqb m m refl) refl

has-other : (n m : ℕ) (ms : List ℕ) → n ≢ m → has n (m ∷ ms) ≡ has n ms
has-other n m ms ne = rw (ne_eqb n m ne) refl

-- ---- the numbers that it has determine an ascending list

false_true : false ≡ true → ⊥
false_true e = cc

not_first : (x : ℕ) (xs ys : List ℕ) → AreFrom (x + 1) ys → ((n : ℕ) → has n (x ∷ xs) ≡ has n ys) → ⊥
not_first x xs ys above same = false_true (sym (has_below (x + 1) x ys (omega arith) above) ∙ sym (same x) ∙ has-here x xs)

rest_same : (x : ℕ) (xs ys : List ℕ) → AreFrom (x + 1) xs → AreFrom (x + 1) ys → ((n : ℕ) → has n (x ∷ xs) ≡ has n (x ∷ ys)) → (n : ℕ) → has n xs ≡ has n ys
rest_same x xs ys a b same n =
    elim (cases_eq n x) [
      | inl h ↦ has_below (x + 1) n xs (omega arith) a ∙ sym (has_below (x + 1) n ys (omega arith) b)
      | inr h ↦ sym (has-other n x xs h) ∙ same n ∙ has-other n x ys h
    ]

pub same_from_has : (xs ys : List ℕ) → IsAscending xs → IsAscending ys → ((n : ℕ) → has n xs ≡ has n ys) → xs ≡ ys
same_from_has [] [] a b same = refl
same_from_has [] (y ∷ ys) a b same = absurd (not_first y ys [] tt (λ n. sym (same n)))
same_from_has (x ∷ xs) [] a b same = absurd (not_first x xs [] tt same)
same_from_has (x ∷ xs) (y ∷ ys) a b same =
    elim (cases_order x y) [
      | inl e ↦
          let b' : AreFrom (x + 1) ys = rw e b.0 in
          let same' : (n : ℕ) → has n (x ∷ xs) ≡ has n (x ∷ ys) = rw e (rw e at same) in
          let tails = same_from_has xs ys a.1 b.1 (rest_same x xs ys a.0 b' same') in
          cc
      | inr (inl h) ↦
          let far : x + 1 ≤ y = omega arith in
          absurd (not_first x xs (y ∷ ys) (far, from-weaker (x + 1) (y + 1) ys (omega arith) b.0) same)
      | inr (inr h) ↦
          let far : y + 1 ≤ x = omega arith in
          absurd (not_first y ys (x ∷ xs) (far, from-weaker (y + 1) (x + 1) xs (omega arith) a.0) (λ n. sym (same n)))
    ]

-- ---- numbers put in order

with_number-same : (x n : ℕ) (xs : List ℕ) → n ≡ x → with_number (x ∷ xs) n ≡ x ∷ xs
unfolding with_number
with_number-same x n xs h = cond-true (eqb n x) _ _ (eq-eqb n x h)

with_number-below : (x n : ℕ) (xs : List ℕ) → n < x → with_number (x ∷ xs) n ≡ n ∷ x ∷ xs
unfolding with_number
with_number-below x n xs h = cond-false (eqb n x) _ _ (ne_eqb n x (λ q. omega arith)) ∙ cond-true (ltb n x) _ _ (lt-ltb n x h)

with_number-above : (x n : ℕ) (xs : List ℕ) → x < n → with_number (x ∷ xs) n ≡ x ∷ with_number xs n
unfolding with_number
with_number-above x n xs h = cond-false (eqb n x) _ _ (ne_eqb n x (λ q. omega arith)) ∙ cond-false (ltb n x) _ _ (le-ltb n x (omega arith))

with_number-nil : (n : ℕ) → with_number [] n ≡ n ∷ []
unfolding with_number
with_number-nil n = refl

from-with_number : (k : ℕ) (ms : List ℕ) (n : ℕ) → k ≤ n → AreFrom k ms → AreFrom k (with_number ms n)
from-with_number k [] n h a = rw with_number-nil (h, tt)
from-with_number k (x ∷ xs) n h a =
    elim (cases_order n x) [
      | inl q ↦ rw (with_number-same x n xs q) a
      | inr (inl q) ↦ rw (with_number-below x n xs q) (h, a)
      | inr (inr q) ↦ rw (with_number-above x n xs q) (a.0, from-with_number k xs n h a.1)
    ]

ascending-with_number : (ms : List ℕ) (n : ℕ) → IsAscending ms → IsAscending (with_number ms n)
ascending-with_number [] n a = rw with_number-nil (tt, tt)
ascending-with_number (x ∷ xs) n a =
    elim (cases_order n x) [
      | inl q ↦ rw (with_number-same x n xs q) a
      | inr (inl q) ↦
          let near : n + 1 ≤ x = omega arith in
          rw (with_number-below x n xs q) ((near, from-weaker (n + 1) (x + 1) xs (omega arith) a.0), a)
      | inr (inr q) ↦ rw (with_number-above x n xs q) (from-with_number (x + 1) xs n (omega arith) a.0, ascending-with_number xs n a.1)
    ]

or_twice : (a b : Bool) → (a || b) ≡ (a || (a || b))
or_twice true b = refl
or_twice false b = refl

or_swap : (a b c : Bool) → (a || (b || c)) ≡ (b || (a || c))
or_swap true true c = refl
or_swap true false c = refl
or_swap false true c = refl
or_swap false false c = refl

pub or_assoc : (a b c : Bool) → ((a || b) || c) ≡ (a || (b || c))
or_assoc true b c = refl
or_assoc false b c = refl

has-with_number : (k : ℕ) (ms : List ℕ) (n : ℕ) → has k (with_number ms n) ≡ (eqb k n || has k ms)
has-with_number k [] n = rw with_number-nil refl
has-with_number k (x ∷ xs) n =
    elim (cases_order n x) [
      | inl q ↦ rw (with_number-same x n xs q, q) (or_twice (eqb k x) (has k xs))
      | inr (inl q) ↦ rw (with_number-below x n xs q) refl
      | inr (inr q) ↦ rw (with_number-above x n xs q, has-with_number k xs n) (or_swap (eqb k x) (eqb k n) (has k xs))
    ]

pub fold-ascending : (acc ms : List ℕ) → IsAscending acc → IsAscending (fold with_number acc ms)
fold-ascending acc [] a = a
fold-ascending acc (m ∷ ms) a = fold-ascending (with_number acc m) ms (ascending-with_number acc m a)

pub has-fold : (k : ℕ) (acc ms : List ℕ) → has k (fold with_number acc ms) ≡ (has k ms || has k acc)
has-fold k acc [] = refl
has-fold k acc (m ∷ ms) =
    has-fold k (with_number acc m) ms ∙
    rw (has-with_number k acc m) (or_swap (has k ms) (eqb k m) (has k acc) ∙ sym (or_assoc (eqb k m) (has k ms) (has k acc)))

pub has-append : (k : ℕ) (xs ys : List ℕ) → has k (xs ++ ys) ≡ (has k xs || has k ys)
has-append k [] ys = refl
has-append k (x ∷ xs) ys = rw (has-append k xs ys) (sym (or_assoc (eqb k x) (has k xs) (has k ys)))

-- ---- ranges

range_none : (a n : ℕ) → false ≡ (leb a n && ltb n (a + 0))
range_none a n = grind (arith, nat_tests)

range_more : (a n k : ℕ) → (eqb n a || (leb (a + 1) n && ltb n (a + 1 + k))) ≡ (leb a n && ltb n (a + suc k))
range_more a n k = grind (arith, nat_tests)

pub has-range : (n a k : ℕ) → has n (range_with_len a k) ≡ (leb a n && ltb n (a + k))
has-range n a zero = range_none a n
has-range n a (suc k) = rw (has-range n (a + 1) k) (range_more a n k)

pub range-from : (m a k : ℕ) (tail : List ℕ) → m ≤ a → AreFrom m tail → AreFrom m (range_with_len a k ++ tail)
range-from m a zero tail h t = t
range-from m a (suc k) tail h t = (h, range-from m (a + 1) k tail (omega arith) t)

pub range-ascending : (a k : ℕ) (tail : List ℕ) → AreFrom (a + k) tail → IsAscending tail → IsAscending (range_with_len a k ++ tail)
range-ascending a zero tail f t = t
range-ascending a (suc k) tail f t = (
  range-from (a + 1) (a + 1) k tail (omega arith) (from-weaker (a + 1) (a + suc k) tail (omega arith) f),
  range-ascending (a + 1) k tail (from-weaker (a + 1 + k) (a + suc k) tail (omega arith) f) t,
)
