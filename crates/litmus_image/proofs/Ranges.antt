-- Lists over the first numbers, one number more at a time.
use Rattle.std.proofs.Common.{◌≡◌, ℕ, zero, suc, ◌+◌, List, [], ◌∷◌, ◌++◌, refl, sym, ap, arith, append_assoc}
use Rattle.std.specs.List.{flat_map, range_with_len}
use Rattle.std.proofs.lemmas.List.{append-nil}

range_from : (a n : ℕ) → range_with_len a (suc n) ≡ range_with_len a n ++ (a + n) ∷ []
range_from a zero = let e : a ≡ a + 0 = omega arith in ap (λ x. x ∷ []) e
range_from a (suc n) =
    let rest = range_from (a + 1) n in
    let e : a + 1 + n ≡ a + suc n = omega arith in
    rw (rest, e) refl

pub range_more : (n : ℕ) → range_with_len 0 n ++ n ∷ [] ≡ range_with_len 0 (n + 1)
range_more n = let e : n + 1 ≡ suc n = omega arith in let f : 0 + n ≡ n = omega arith in rw e (sym (rw f at (range_from 0 n)))

pub flat_map-append : {A B : Type 0} (f : A → List B) (xs ys : List A) → flat_map f (xs ++ ys) ≡ flat_map f xs ++ flat_map f ys
flat_map-append f [] ys = refl
flat_map-append f (x ∷ xs) ys = let rest = flat_map-append f xs ys in rw rest (sym (append_assoc (f x) (flat_map f xs) (flat_map f ys)))

-- what is behind what was there: one number more
pub pushed_more : {B : Type 0} (old : List B) (f : ℕ → List B) (n : ℕ) → (old ++ flat_map f (range_with_len 0 n)) ++ f n ≡ old ++ flat_map f (range_with_len 0 (n + 1))
pushed_more old f n =
    rw (← range_more n, flat_map-append f (range_with_len 0 n) (n ∷ []), append-nil (f n)) (append_assoc old (flat_map f (range_with_len 0 n)) (f n))
