-- A search that finds nothing says that every element fails its test, and the other way round; and small steps on tests and lists.
use Rattle.std.specs.Prelude.{◌≡◌, ◌<◌, ℕ, Bool, true, false, not, ◌&&◌, ◌||◌, List, [], ◌∷◌, ◌++◌, Option, Some, None, option_map, refl}
use Rattle.std.specs.List.{list_all, find, range_with_len, AllByRecursion}
use Rattle.std.proofs.Common.{cond}
use Rattle.state_judging.proofs.TreeRules.Lists.{each-from_range, range-from_each}

-- ---- tests

pub not_not : (b : Bool) → not (not b) ≡ true → b ≡ true
not_not true e = refl
not_not false e = e

pub not-not : (b : Bool) → b ≡ true → not (not b) ≡ true
not-not true e = refl
not-not false e = e

pub and-other : (a b : Bool) → (a && b) ≡ false → a ≡ true → b ≡ false
and-other true b e is = e
and-other false b e is = cc

pub not-false : (b : Bool) → not b ≡ false → b ≡ true
not-false true e = refl
not-false false e = cc

pub or-other : (a b : Bool) → (not a || b) ≡ true → a ≡ true → b ≡ true
or-other true b e is = e
or-other false b e is = cc

pub or-by : (a b : Bool) → (a ≡ true → b ≡ true) → (not a || b) ≡ true
or-by true b e = e refl
or-by false b e = refl

-- ---- options

module _ {X Y : Type 0} (f : X → Y) where
  pub mapped_none : (o : Option X) → option_map f o ≡ None → o ≡ None
  mapped_none None e = refl
  mapped_none (Some x) e = cc

  pub none_mapped : (o : Option X) → o ≡ None → option_map f o ≡ None
  none_mapped None e = refl
  none_mapped (Some x) e = cc

-- ---- searches

module _ {X : Type 0} (fails : X → Bool) where
  first-none : (x : X) (o : Option X) (b c : Bool) → (o ≡ None → c ≡ true) → cond b (Some x) o ≡ None → (not b && c) ≡ true
  first-none x o true c rest e = cc
  first-none x o false c rest e = rest e

  none-first : (x : X) (o : Option X) (b c : Bool) → (c ≡ true → o ≡ None) → (not b && c) ≡ true → cond b (Some x) o ≡ None
  none-first x o true c rest e = cc
  none-first x o false c rest e = rest e

  pub none-found : (xs : List X) → find fails xs ≡ None → list_all (λ x. not (fails x)) xs ≡ true
  none-found [] e = refl
  none-found (x ∷ xs) e = first-none x (find fails xs) (fails x) (list_all (λ x. not (fails x)) xs) (none-found xs) e

  pub found-none : (xs : List X) → list_all (λ x. not (fails x)) xs ≡ true → find fails xs ≡ None
  found-none [] e = refl
  found-none (x ∷ xs) e = none-first x (find fails xs) (fails x) (list_all (λ x. not (fails x)) xs) (found-none xs) e

-- every number below n passes
pub each-unbroken : (passes : ℕ → Bool) (n : ℕ) → find (λ x. not (passes x)) (range_with_len 0 n) ≡ None → (x : ℕ) → x < n → passes x ≡ true
each-unbroken passes n none x below = not_not (passes x) (each-from_range (λ x. not (not (passes x))) n (none-found (λ x. not (passes x)) (range_with_len 0 n) none) x below)

pub unbroken-each : (passes : ℕ → Bool) (n : ℕ) → ((x : ℕ) → x < n → passes x ≡ true) → find (λ x. not (passes x)) (range_with_len 0 n) ≡ None
unbroken-each passes n each = found-none (λ x. not (passes x)) (range_with_len 0 n) (range-from_each (λ x. not (not (passes x))) n (λ x below. not-not (passes x) (each x below)))

-- ---- lists

module _ {X : Type 0} where
  pub each-append : (P : X → Type 0) (xs ys : List X) → AllByRecursion P xs → AllByRecursion P ys → AllByRecursion P (xs ++ ys)
  each-append P [] ys first rest = rest
  each-append P (x ∷ xs) ys first rest = (first.0, each-append P xs ys first.1 rest)

  pub each-so : (P Q : X → Type 0) → ((x : X) → P x → Q x) → (xs : List X) → AllByRecursion P xs → AllByRecursion Q xs
  each-so P Q step [] all = tt
  each-so P Q step (x ∷ xs) all = (step x all.0, each-so P Q step xs all.1)

  pub each-both : (P Q R : X → Type 0) → ((x : X) → P x → Q x → R x) → (xs : List X) → AllByRecursion P xs → AllByRecursion Q xs → AllByRecursion R xs
  each-both P Q R step [] first second = tt
  each-both P Q R step (x ∷ xs) first second = (step x first.0 second.0, each-both P Q R step xs first.1 second.1)
