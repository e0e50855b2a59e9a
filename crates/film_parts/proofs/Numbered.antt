-- Parts that are numbered: one more after those that are there, and the rest.
-- Letters: x is an element, xs are elements.
use Rattle.std.proofs.Common.{◌≡◌, ◌<◌, ℕ, zero, suc, ◌+◌, List, [], ◌∷◌, ◌++◌, drop, get_or, length, refl, sym, ap, subst, ◌∙◌, append_assoc, append-nil, arith}
use Rattle.film_model.specs.Part.{Part, numbered}

drop_first : {X : Type 0} (xs : List X) (place : ℕ) (other : X) → place < length xs → drop place xs ≡ get_or xs place other ∷ drop (suc place) xs
drop_first [] place other inside = absurd (omega arith)
drop_first (x ∷ xs) zero other inside = refl
drop_first (x ∷ xs) (suc place) other inside = drop_first xs place other (omega arith)

pub drop_next : {X : Type 0} (xs : List X) (place : ℕ) (other : X) → place < length xs → drop place xs ≡ get_or xs place other ∷ drop (place + 1) xs
drop_next xs place other inside = subst (λ n. drop place xs ≡ get_or xs place other ∷ drop n xs) {x = suc place} {y = place + 1} (omega arith) (drop_first xs place other inside)

module _ {X : Type 0} (part : ℕ → X → Part) where
  pub numbered_first : (number : ℕ) (x : X) (xs ys : List X) → xs ≡ x ∷ ys → numbered part number xs ≡ part number x ∷ numbered part (number + 1) ys
  unfolding numbered
  numbered_first number x xs ys is = ap (numbered part number) is

  -- a still that grew by the next part
  pub numbered_step : (number : ℕ) (x : X) (xs ys : List X) (start whole now grown : List Part) → xs ≡ x ∷ ys → now ++ numbered part number xs ≡ start ++ whole
      → grown ≡ now ++ part number x ∷ [] → grown ++ numbered part (number + 1) ys ≡ start ++ whole
  numbered_step number x xs ys start whole now grown is so_far more =
      ap (λ (ps : List Part). ps ++ numbered part (number + 1) ys) more ∙ append_assoc now (part number x ∷ []) (numbered part (number + 1) ys)
      ∙ ap (λ (ps : List Part). now ++ ps) (sym (numbered_first number x xs ys is)) ∙ so_far

  pub numbered_last : (number : ℕ) (xs : List X) (start whole now : List Part) → xs ≡ [] → now ++ numbered part number xs ≡ start ++ whole → now ≡ start ++ whole
  unfolding numbered
  numbered_last number xs start whole now none so_far = sym (append-nil now) ∙ ap (λ (ys : List X). now ++ numbered part number ys) (sym none) ∙ so_far
