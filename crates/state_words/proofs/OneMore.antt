-- What is written of the first numbers, and of one more.
use Rattle.std.proofs.Common.{◌≡◌, ℕ, zero, suc, ◌+◌, ◌++◌, List, [], ◌∷◌, Option, Some, None, refl, sym, ap, ◌∙◌, arith, add-one, add-zero, zero-add}
use Rattle.std.specs.Prelude.{filter_map, option_to_list}
use Rattle.std.specs.List.{flat_map, range_with_len}
use Rattle.std.proofs.lemmas.List.{append-nil}
use Rattle.std.proofs.lemmas.List.Elements.{filter_map-append}
use Rattle.std.proofs.lemmas.Grind.{flat_map-append}

range-longer : (a n : ℕ) → range_with_len a (suc n) ≡ range_with_len a n ++ (a + n) ∷ []
range-longer a zero = ap (λ k. k ∷ []) (sym (add-zero a))
range-longer a (suc n) =
    let next : a + 1 + n ≡ a + suc n = omega arith in
    ap (λ ks. a ∷ ks) (range-longer (a + 1) n ∙ ap (λ k. range_with_len (a + 1) n ++ k ∷ []) next)

pub range-more : (n : ℕ) → range_with_len 0 (n + 1) ≡ range_with_len 0 n ++ n ∷ []
range-more n = rw add-one (range-longer 0 n ∙ ap (λ k. range_with_len 0 n ++ k ∷ []) (zero-add n))

module _ {X : Type 0} where
  pub flat_map-more : (f : ℕ → List X) (n : ℕ) → flat_map f (range_with_len 0 (n + 1)) ≡ flat_map f (range_with_len 0 n) ++ f n
  flat_map-more f n = rw (range-more n) (flat_map-append f (range_with_len 0 n) (n ∷ []) ∙ ap (λ t. flat_map f (range_with_len 0 n) ++ t) (append-nil (f n)))

  given-alone : (f : ℕ → Option X) (n : ℕ) → filter_map f (n ∷ []) ≡ option_to_list (f n)
  given-alone f n = elim (f n) as (λ o. f n ≡ o → filter_map f (n ∷ []) ≡ option_to_list o) [ Some x ↦ λ h. rw h refl | None ↦ λ h. rw h refl ] refl

  pub filter_map-more : (f : ℕ → Option X) (n : ℕ) → filter_map f (range_with_len 0 (n + 1)) ≡ filter_map f (range_with_len 0 n) ++ option_to_list (f n)
  filter_map-more f n = rw (range-more n) (filter_map-append f (range_with_len 0 n) (n ∷ []) ∙ ap (λ t. filter_map f (range_with_len 0 n) ++ t) (given-alone f n))
