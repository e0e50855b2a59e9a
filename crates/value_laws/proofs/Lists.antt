-- What each element of a list has, each has after a change of the list.
use Rattle.std.proofs.Common.{◌≡◌, ℕ, zero, suc, ◌+◌, subst, Bool, true, false, cond, List, [], ◌∷◌, ◌++◌, map, replicate, Some, None, refl}
use Rattle.std.specs.Prelude.{filter, find, slice_get, slice_set}
use Rattle.std.specs.List.{AllByRecursion}
use Rattle.value_laws.specs.TreeModel.State.Lists.{map_from, rest_of, without_first, first_of}

module _ {X : Type 0} (P : X → Type 0) where
  pub all-set : (xs : List X) (i : ℕ) (v : X) → AllByRecursion P xs → P v → AllByRecursion P (slice_set xs i v)
  all-set [] i v all is = all
  all-set (x ∷ xs) zero v all is = (is, all.1)
  all-set (x ∷ xs) (suc i) v all is = (all.0, all-set xs i v all.1 is)

  pub all-pushed : (xs : List X) (v : X) → AllByRecursion P xs → P v → AllByRecursion P (xs ++ v ∷ [])
  all-pushed [] v all is = (is, tt)
  all-pushed (x ∷ xs) v all is = (all.0, all-pushed xs v all.1 is)

  pub all-joined : (xs ys : List X) → AllByRecursion P xs → AllByRecursion P ys → AllByRecursion P (xs ++ ys)
  all-joined [] ys all more = more
  all-joined (x ∷ xs) ys all more = (all.0, all-joined xs ys all.1 more)

  pub all-rest : (xs : List X) → AllByRecursion P xs → AllByRecursion P (rest_of xs)
  all-rest [] all = tt
  all-rest (x ∷ xs) all = all.1

  pub all-first : (xs : List X) (x : X) → AllByRecursion P xs → first_of xs ≡ Some x → P x
  all-first [] x all is = cc
  all-first (y ∷ ys) x all is = let same : y ≡ x = cc in subst P same all.0

  pub all-filter : (t : X → Bool) (xs : List X) → AllByRecursion P xs → AllByRecursion P (filter t xs)
  all-filter t [] all = tt
  all-filter t (x ∷ xs) all = by (t x) (all-filter t xs all.1) where
    by : (b : Bool) → AllByRecursion P (filter t xs) → AllByRecursion P (cond b (x ∷ filter t xs) (filter t xs))
    by true rest = (all.0, rest)
    by false rest = rest

  pub all-without_first : (t : X → Bool) (xs : List X) → AllByRecursion P xs → AllByRecursion P (without_first t xs)
  all-without_first t [] all = tt
  all-without_first t (x ∷ xs) all = by (t x) (all-without_first t xs all.1) where
    by : (b : Bool) → AllByRecursion P (without_first t xs) → AllByRecursion P (cond b xs (x ∷ without_first t xs))
    by true rest = all.1
    by false rest = (all.0, rest)

  pub all-found : (t : X → Bool) (xs : List X) (x : X) → AllByRecursion P xs → find t xs ≡ Some x → P x
  all-found t [] x all is = cc
  all-found t (y ∷ ys) x all is = by (t y) (λ found. all-found t ys x all.1 found) is where
    by : (b : Bool) → (find t ys ≡ Some x → P x) → cond b (Some y) (find t ys) ≡ Some x → P x
    by true rest is = let same : y ≡ x = cc in subst P same all.0
    by false rest is = rest is

  pub all-got : (xs : List X) (k : ℕ) (x : X) → AllByRecursion P xs → slice_get xs k ≡ Some x → P x
  all-got [] k x all is = cc
  all-got (y ∷ ys) zero x all is = let same : y ≡ x = cc in subst P same all.0
  all-got (y ∷ ys) (suc k) x all is = all-got ys k x all.1 is

  pub all-replicate : (n : ℕ) (x : X) → P x → AllByRecursion P (replicate n x)
  all-replicate zero x is = tt
  all-replicate (suc n) x is = (is, all-replicate n x is)

-- where each change gives another fact
module _ {X : Type 0} (P Q : X → Type 0) where
  pub all-map_from : (g : ℕ → X → X) → ((i : ℕ) (x : X) → P x → Q (g i x)) → (i : ℕ) (xs : List X) → AllByRecursion P xs → AllByRecursion Q (map_from g i xs)
  all-map_from g gives i [] all = tt
  all-map_from g gives i (x ∷ xs) all = (gives i x all.0, all-map_from g gives (i + 1) xs all.1)

  pub all-more : ((x : X) → P x → Q x) → (xs : List X) → AllByRecursion P xs → AllByRecursion Q xs
  all-more gives [] all = tt
  all-more gives (x ∷ xs) all = (gives x all.0, all-more gives xs all.1)

module _ {X Y : Type 0} (P : X → Type 0) (Q : Y → Type 0) where
  pub all-map : (f : X → Y) → ((x : X) → P x → Q (f x)) → (xs : List X) → AllByRecursion P xs → AllByRecursion Q (map f xs)
  all-map f gives [] all = tt
  all-map f gives (x ∷ xs) all = (gives x all.0, all-map f gives xs all.1)

-- where none passes, each fails
pub none-found : {X : Type 0} (t : X → Bool) (xs : List X) → find t xs ≡ None → AllByRecursion (λ x. t x ≡ false) xs
none-found t [] none = tt
none-found t (x ∷ xs) none = by (t x) refl none (λ later. none-found t xs later) where
  by : (b : Bool) → t x ≡ b → cond b (Some x) (find t xs) ≡ None → (find t xs ≡ None → AllByRecursion (λ x. t x ≡ false) xs) → (t x ≡ false) × AllByRecursion (λ x. t x ≡ false) xs
  by true is none rest = cc
  by false is none rest = (is, rest none)
