-- What loops over lists come to.
-- Letters: xs are things, x is the one at place k, f gives a list for each.
use Rattle.std.proofs.Common.{◌≡◌, ℕ, zero, suc, ◌+◌, List, [], ◌∷◌, ◌++◌, map, take, Some, refl, sym, ap, ◌∙◌, arith, append_assoc, append-nil}
use Rattle.std.specs.Prelude.{flat_map, slice_get}
use Rattle.std.specs.List.{range_with_len}

module _ {X : Type 0} where
  pub take-more : (xs : List X) (k : ℕ) (x : X) → slice_get xs k ≡ Some x → take (suc k) xs ≡ take k xs ++ x ∷ []
  take-more [] k x is = cc
  take-more (y ∷ ys) zero x is =
      let same : y ≡ x = cc in
      ap (λ z. z ∷ []) same
  take-more (y ∷ ys) (suc k) x is = ap (λ l. y ∷ l) (take-more ys k x is)

  module _ {Y : Type 0} (f : X → List Y) where
    pub flat-joined : (xs ys : List X) → flat_map f (xs ++ ys) ≡ flat_map f xs ++ flat_map f ys
    flat-joined [] ys = refl
    flat-joined (x ∷ xs) ys = ap (λ l. f x ++ l) (flat-joined xs ys) ∙ sym (append_assoc (f x) (flat_map f xs) (flat_map f ys))

    pub flat-more : (xs : List X) (k : ℕ) (x : X) → slice_get xs k ≡ Some x → flat_map f (take (suc k) xs) ≡ flat_map f (take k xs) ++ f x
    flat-more xs k x is = ap (flat_map f) (take-more xs k x is) ∙ flat-joined (take k xs) (x ∷ []) ∙ ap (λ l. flat_map f (take k xs) ++ l) (append-nil (f x))

  module _ {Y : Type 0} (f : X → Y) where
    pub map-joined : (xs ys : List X) → map f (xs ++ ys) ≡ map f xs ++ map f ys
    map-joined [] ys = refl
    map-joined (x ∷ xs) ys = ap (λ l. f x ∷ l) (map-joined xs ys)

-- so many numbers, and one more
pub range-more : (a n : ℕ) → range_with_len a (suc n) ≡ range_with_len a n ++ (a + n) ∷ []
range-more a zero = ap (λ k. k ∷ []) (omega arith)
range-more a (suc n) =
    let next : (a + 1) + n ≡ a + suc n = omega arith in
    ap (λ l. a ∷ l) (range-more (a + 1) n ∙ ap (λ k. range_with_len (a + 1) n ++ k ∷ []) next)

-- ---- one more in a loop

pub mapped-more : {X : Type 0} (f : ℕ → X) (old now : List X) (n : ℕ) → now ≡ old ++ map f (range_with_len 0 n) → now ++ f n ∷ [] ≡ old ++ map f (range_with_len 0 (n + 1))
mapped-more f old now n is =
    let next : n + 1 ≡ suc n = omega arith in
    let number : 0 + n ≡ n = omega arith in
    let more : map f (range_with_len 0 (n + 1)) ≡ map f (range_with_len 0 n) ++ f n ∷ [] =
    ap (λ k. map f (range_with_len 0 k)) next ∙ ap (map f) (range-more 0 n) ∙ map-joined f (range_with_len 0 n) ((0 + n) ∷ []) ∙ ap (λ k. map f (range_with_len 0 n) ++ f k ∷ []) number in
    ap (λ l. l ++ f n ∷ []) is ∙ append_assoc old (map f (range_with_len 0 n)) (f n ∷ []) ∙ ap (λ l. old ++ l) (sym more)

pub flat-number : {X : Type 0} (f : ℕ → List X) (old now : List X) (n : ℕ) → now ≡ old ++ flat_map f (range_with_len 0 n) → now ++ f n ≡ old ++ flat_map f (range_with_len 0 (n + 1))
flat-number f old now n is =
    let next : n + 1 ≡ suc n = omega arith in
    let number : 0 + n ≡ n = omega arith in
    let more : flat_map f (range_with_len 0 (n + 1)) ≡ flat_map f (range_with_len 0 n) ++ f n =
    ap (λ k. flat_map f (range_with_len 0 k)) next ∙ ap (flat_map f) (range-more 0 n) ∙ flat-joined f (range_with_len 0 n) ((0 + n) ∷ []) ∙ ap (λ l. flat_map f (range_with_len 0 n) ++ l) (append-nil (f (0 + n))) ∙ ap (λ k. flat_map f (range_with_len 0 n) ++ f k) number in
    ap (λ l. l ++ f n) is ∙ append_assoc old (flat_map f (range_with_len 0 n)) (f n) ∙ ap (λ l. old ++ l) (sym more)

pub flat-place : {X Y : Type 0} (f : X → List Y) (xs : List X) (k : ℕ) (x : X) (old now : List Y) → slice_get xs k ≡ Some x → now ≡ old ++ flat_map f (take k xs) → now ++ f x ≡ old ++ flat_map f (take (k + 1) xs)
flat-place f xs k x old now there is =
    let next : k + 1 ≡ suc k = omega arith in
    ap (λ l. l ++ f x) is ∙ append_assoc old (flat_map f (take k xs)) (f x) ∙ ap (λ l. old ++ l) (sym (ap (λ n. flat_map f (take n xs)) next ∙ flat-more f xs k x there))

-- lists one after the other, in other groups
pub grouped : {X : Type 0} (a b c d e : List X) → (((a ++ b) ++ c) ++ d) ++ e ≡ a ++ (((b ++ c) ++ d) ++ e)
grouped [] b c d e = refl
grouped (x ∷ a) b c d e = ap (λ l. x ∷ l) (grouped a b c d e)
