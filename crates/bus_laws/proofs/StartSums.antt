-- Sums over the numbers below a bound and over a list, and how many numbers of one rest are below a bound.
use Rattle.std.proofs.Common.{◌≡◌, ◌≢◌, ℕ, zero, suc, ◌+◌, ◌*◌, ◌/◌, ◌%◌, ◌<◌, ◌≤◌, Bool, true, false, List, [], ◌∷◌, ◌++◌, refl, sym, ap, subst, zero-add, arith}
use Rattle.std.specs.Prelude.{nat_eq, if◌then◌else◌}
use Rattle.std.proofs.Math.Nat.{add-mul, mul-le-mul_right, lt_of_mul-lt-mul_right, mod-add-div'}
use Rattle.std.proofs.lemmas.Bool.{eqb-true, eqb-false, ne_eqb}

abbrev pub one_if : Bool → ℕ
one_if b = if b then 1 else 0

-- over the numbers below k
abbrev pub total : ℕ → (ℕ → ℕ) → ℕ
total zero f = 0
total (suc k) f = total k f + f k

-- over a list
abbrev pub among : {X : Type 0} → (X → ℕ) → List X → ℕ
among f [] = 0
among f (x ∷ xs) = f x + among f xs

pub total-nothing : (k : ℕ) → total k (λ y. 0) ≡ 0
total-nothing zero = refl
total-nothing (suc k) =
    let rest = total-nothing k in
    omega arith

pub total-plus : (k : ℕ) (f g : ℕ → ℕ) → total k (λ y. f y + g y) ≡ total k f + total k g
total-plus zero f g = refl
total-plus (suc k) f g =
    let rest = total-plus k f g in
    omega arith

pub total-le : (k : ℕ) (f g : ℕ → ℕ) → ((y : ℕ) → y < k → f y ≤ g y) → total k f ≤ total k g
total-le zero f g h = omega arith
total-le (suc k) f g h =
    let rest = total-le k f g (λ y l. h y (omega arith)) in
    let last = h k (omega arith) in
    omega arith

pub total-same : (k : ℕ) (f g : ℕ → ℕ) → ((y : ℕ) → y < k → f y ≡ g y) → total k f ≡ total k g
total-same zero f g h = refl
total-same (suc k) f g h =
    let rest = total-same k f g (λ y l. h y (omega arith)) in
    let last = h k (omega arith) in
    omega arith

-- one of them is no more than all
pub total-term : (k : ℕ) (f : ℕ → ℕ) (y : ℕ) → y < k → f y ≤ total k f
total-term zero f y l = absurd (omega arith)
total-term (suc k) f y l =
    elim (nat_eq y k) as (λ b. nat_eq y k ≡ b → f y ≤ total (suc k) f) [
      | true ↦ λ is.
          let same : f y ≡ f k = ap f (eqb-true y k is) in
          omega arith
      | false ↦ λ other.
          let below : y < k = under y k other l in
          let rest = total-term k f y below in
          omega arith
    ] refl where
      under : (y k : ℕ) → nat_eq y k ≡ false → y < suc k → y < k
      under y k other l =
          let differ : y ≢ k = eqb-false y k other in
          omega arith

pub total-swap : (j k : ℕ) (f : ℕ → ℕ → ℕ) → total j (λ w. total k (f w)) ≡ total k (λ y. total j (λ w. f w y))
total-swap zero k f = sym (total-nothing k)
total-swap (suc j) k f =
    let rest = total-swap j k f in
    let both = total-plus k (λ y. total j (λ w. f w y)) (f j) in
    omega arith

-- where each of them is at least 1
pub total-each : (k : ℕ) (f : ℕ → ℕ) → ((y : ℕ) → y < k → 1 ≤ f y) → k ≤ total k f
total-each zero f h = omega arith
total-each (suc k) f h =
    let rest = total-each k f (λ y l. h y (omega arith)) in
    let last = h k (omega arith) in
    omega arith

-- just one number is this one
pub total-one : (k a : ℕ) → total k (λ w. one_if (nat_eq a w)) ≤ 1
total-one k a = (below k) where
  none : (k : ℕ) → k ≤ a → total k (λ w. one_if (nat_eq a w)) ≡ 0
  none zero h = refl
  none (suc k) h =
      let rest = none k (omega arith) in
      let differs : nat_eq a k ≡ false = ne_eqb a k (λ same. omega arith) in
      rw differs (omega arith)

  below : (k : ℕ) → total k (λ w. one_if (nat_eq a w)) ≤ 1
  below zero = omega arith
  below (suc k) =
      elim (nat_eq a k) as (λ b. nat_eq a k ≡ b → total (suc k) (λ w. one_if (nat_eq a w)) ≤ 1) [
        | true ↦ λ is.
            let before = none k (omega (arith, eqb-true a k is)) in
            rw is (omega arith)
        | false ↦ λ other.
            let rest = below k in
            rw other (omega arith)
      ] refl

-- ---- over a list

module _ {X : Type 0} where
  pub among-total : (k : ℕ) (f : X → ℕ → ℕ) (xs : List X) → among (λ v. total k (f v)) xs ≡ total k (λ y. among (λ v. f v y) xs)
  among-total k f [] = sym (total-nothing k)
  among-total k f (x ∷ xs) =
      let rest = among-total k f xs in
      let both = total-plus k (f x) (λ y. among (λ v. f v y) xs) in
      omega arith

  pub among-append : (f : X → ℕ) (xs ys : List X) → among f (xs ++ ys) ≡ among f xs + among f ys
  among-append f [] ys = sym (zero-add (among f ys))
  among-append f (x ∷ xs) ys =
      let rest = among-append f xs ys in
      omega arith

-- ---- numbers of one rest

-- below x there are no more than x / s numbers with x's rest
module _ (s r : ℕ) (low : r < s) where
  abbrev same_rest : ℕ → ℕ
  same_rest y = one_if (nat_eq (y % s) r)

  whole : (x : ℕ) → x % s ≡ r → r + x / s * s ≡ x
  whole x rest = subst (λ k. k + x / s * s ≡ x) rest (mod-add-div' x s)

  next : (c q : ℕ) → c * s < q * s + s → c ≤ q
  next c q h =
      let more : (q + 1) * s ≡ q * s + 1 * s = add-mul q 1 s in
      let below : c < q + 1 = lt_of_mul-lt-mul_right s (omega arith) in
      omega arith

  rests-bounded : (x : ℕ) → total x same_rest * s + r < x + s
  rests-bounded zero = omega arith
  rests-bounded (suc x) =
      let before = rests-bounded x in
      elim (nat_eq (x % s) r) as (λ b. nat_eq (x % s) r ≡ b → total (suc x) same_rest * s + r < suc x + s) [
        | true ↦ λ is.
            let c = total x same_rest in
            let whole_x : r + x / s * s ≡ x = whole x (eqb-true _ _ is) in
            let fewer : c ≤ x / s = next c (x / s) (omega arith) in
            let product : c * s ≤ x / s * s = mul-le-mul_right s fewer in
            let more : (c + 1) * s ≡ c * s + 1 * s = add-mul c 1 s in
            rw is (omega arith)
        | false ↦ λ other.
            let more : (total x same_rest + 0) * s ≡ total x same_rest * s + 0 * s = add-mul (total x same_rest) 0 s in
            rw other (omega arith)
      ] refl

  pub rests-below : (x places : ℕ) → x % s ≡ r → x < places * s → total x same_rest < places
  rests-below x places rest inside =
      let c = total x same_rest in
      let bound = rests-bounded x in
      let whole_x : r + x / s * s ≡ x = whole x rest in
      let fewer : c ≤ x / s = next c (x / s) (omega arith) in
      let below : x / s < places = lt_of_mul-lt-mul_right s (omega arith) in
      omega arith
