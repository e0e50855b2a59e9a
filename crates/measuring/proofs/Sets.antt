-- Lists of what f gives of the numbers from k on, of which one is changed.
use Rattle.std.proofs.Common.{◌≡◌, ◌∙◌, ◌≤◌, ℕ, zero, suc, ◌+◌, ◌∷◌, map, refl, sym, ap, arith, add-zero, zero-add}
use Rattle.std.specs.Prelude.{slice_index_or, slice_set}
use Rattle.std.specs.List.{range_with_len}

module _ {A : Type 0} (f g : ℕ → A) where
  pub map-same : (k n : ℕ) → ((j : ℕ) → k ≤ j → g j ≡ f j) → map f (range_with_len k n) ≡ map g (range_with_len k n)
  map-same k zero same = refl
  map-same k (suc n) same = ap (λ x. x ∷ map f (range_with_len (k + 1) n)) (sym (same k (omega arith))) ∙ ap (λ xs. g k ∷ xs) (map-same (k + 1) n (λ j l. same j (omega (arith, l))))

  module _ (change : A → A) (d : A) where
    set-at : (k i n : ℕ) → ((j : ℕ) → (j ≡ k + i → ⊥) → g j ≡ f j) → g (k + i) ≡ change (f (k + i))
        → slice_set (map f (range_with_len k n)) i (change (slice_index_or (map f (range_with_len k n)) i d)) ≡ map g (range_with_len k n)
    set-at k zero zero others here = refl
    set-at k (suc i) zero others here = refl
    set-at k zero (suc n) others here =
        ap (λ x. x ∷ map f (range_with_len (k + 1) n)) (sym (ap g (sym (add-zero k)) ∙ here ∙ ap (λ j. change (f j)) (add-zero k)))
        ∙ ap (λ xs. g k ∷ xs) (map-same (k + 1) n (λ j l. others j (λ same. omega (arith, l, same))))
    set-at k (suc i) (suc n) others here =
        let next : k + suc i ≡ k + 1 + i = omega arith in
        ap (λ x. x ∷ slice_set (map f (range_with_len (k + 1) n)) i (change (slice_index_or (map f (range_with_len (k + 1) n)) i d))) (sym (others k (λ same. omega (arith, same))))
        ∙ ap (λ xs. g k ∷ xs) (set-at (k + 1) i n (λ j other. others j (λ same. other (same ∙ next))) (rw next at here))

    -- one of a list that begins with that of 0
    pub set-one : (i n : ℕ) → ((j : ℕ) → (j ≡ i → ⊥) → g j ≡ f j) → g i ≡ change (f i)
        → slice_set (map f (range_with_len 0 n)) i (change (slice_index_or (map f (range_with_len 0 n)) i d)) ≡ map g (range_with_len 0 n)
    set-one i n others here = set-at 0 i n (λ j other. others j (λ same. other (same ∙ sym (zero-add i)))) (rw zero-add here)
