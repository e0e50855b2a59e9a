-- What loops over tests come to.
-- Letters: xs are things, x is the one at place k, p a test, ts are turns.
use Rattle.std.proofs.Common.{◌≡◌, ℕ, zero, suc, ◌+◌, ◌≤◌, Bool, true, false, List, [], ◌∷◌, ◌++◌, length, drop, take, Option, Some, None, refl, ap, ◌∙◌, arith}
use Rattle.std.specs.Prelude.{filter, find, slice_get, if◌then◌else◌}
use Rattle.ddm_types.specs.declared.turns.Turn.{Turn}
use Rattle.explorer.specs.SearchModel.Tried.{first_or}
use Rattle.machine_states.proofs.Loops.{take-more}

module _ {X : Type 0} where
  pub take-whole : (xs : List X) (k : ℕ) → length xs ≤ k → take k xs ≡ xs
  take-whole [] zero all = refl
  take-whole [] (suc k) all = refl
  take-whole (x ∷ xs) zero all = absurd (omega (arith, all))
  take-whole (x ∷ xs) (suc k) all = ap (λ l. x ∷ l) (take-whole xs k (omega (arith, all)))

  pub drop-more : (xs : List X) (k : ℕ) (x : X) → slice_get xs k ≡ Some x → drop k xs ≡ x ∷ drop (suc k) xs
  drop-more [] k x is = cc
  drop-more (y ∷ ys) zero x is =
      let same : y ≡ x = cc in
      ap (λ z. z ∷ ys) same
  drop-more (y ∷ ys) (suc k) x is = drop-more ys k x is

  pub drop-whole : (xs : List X) (k : ℕ) → length xs ≤ k → drop k xs ≡ []
  drop-whole [] zero all = refl
  drop-whole [] (suc k) all = refl
  drop-whole (x ∷ xs) zero all = absurd (omega (arith, all))
  drop-whole (x ∷ xs) (suc k) all = drop-whole xs k (omega (arith, all))

  module _ (p : X → Bool) where
    pub find-first : (x : X) (xs : List X) → find p (x ∷ xs) ≡ (if p x then Some x else find p xs)
    find-first x xs = elim (p x) as (λ b. (if b then Some x else find p xs) ≡ (if b then Some x else find p xs)) [ true ↦ refl | false ↦ refl ]

    pub filter-joined : (xs ys : List X) → filter p (xs ++ ys) ≡ filter p xs ++ filter p ys
    filter-joined [] ys = refl
    filter-joined (x ∷ xs) ys = elim (p x) as (λ b. (if b then x ∷ filter p (xs ++ ys) else filter p (xs ++ ys)) ≡ (if b then x ∷ filter p xs else filter p xs) ++ filter p ys) [ true ↦ ap (λ l. x ∷ l) (filter-joined xs ys) | false ↦ filter-joined xs ys ]

pub filter-place : {X : Type 0} (p : X → Bool) (xs : List X) (k : ℕ) (x : X) → slice_get xs k ≡ Some x → filter p (take (k + 1) xs) ≡ filter p (take k xs) ++ filter p (x ∷ [])
filter-place p xs k x there =
    let next : k + 1 ≡ suc k = omega arith in
    ap (λ n. filter p (take n xs)) next ∙ ap (filter p) (take-more xs k x there) ∙ filter-joined p (take k xs) (x ∷ [])

-- the first turn that passes is tried alone
abbrev pub found_or : Option Turn → List Turn → List Turn
found_or None others = others
found_or (Some t) others = t ∷ []

pub first-found : (p : Turn → Bool) (ts others : List Turn) → first_or (filter p ts) others ≡ found_or (find p ts) others
first-found p [] others = refl
first-found p (t ∷ ts) others = elim (p t) as (λ b. first_or (if b then t ∷ filter p ts else filter p ts) others ≡ found_or (if b then Some t else find p ts) others) [ true ↦ refl | false ↦ first-found p ts others ]
