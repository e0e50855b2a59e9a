-- Folds of lists, one element more at a time.
use Rattle.std.proofs.Common.{◌≡◌, ℕ, ◌+◌, ◌<◌, ◌≤◌, List, ◌++◌, length, drop, get_or, refl, sym, ap, ◌∙◌}
use Rattle.std.specs.Prelude.{fold}
use Rattle.std.specs.List.{flat_map}
use Rattle.std.proofs.lemmas.List.{drop_all, drop_more}
use Rattle.std.proofs.lemmas.List.Sums.{fold-append}

pub fold_next : {A B : Type 0} (f : B → A → B) (b : B) (xs : List A) (k : ℕ) (d : A) → k < length xs → fold f b (drop k xs) ≡ fold f (f b (get_or xs k d)) (drop (k + 1) xs)
fold_next f b xs k d inside = rw (drop_more xs k d inside) refl

pub fold_done : {A B : Type 0} (f : B → A → B) (b : B) (xs : List A) (k : ℕ) → length xs ≤ k → fold f b (drop k xs) ≡ b
fold_done f b xs k past = rw (drop_all k xs past) refl

pub parts_next : {A B C : Type 0} (f : B → A → B) (g : C → List A) (b : B) (xs : List C) (k : ℕ) (d : C) → k < length xs
    → fold f b (flat_map g (drop k xs)) ≡ fold f (fold f b (g (get_or xs k d))) (flat_map g (drop (k + 1) xs))
parts_next f g b xs k d inside = rw (drop_more xs k d inside) (fold-append f b (g (get_or xs k d)) (flat_map g (drop (k + 1) xs)))

pub parts_done : {A B C : Type 0} (f : B → A → B) (g : C → List A) (b : B) (xs : List C) (k : ℕ) → length xs ≤ k → fold f b (flat_map g (drop k xs)) ≡ b
parts_done f g b xs k past = rw (drop_all k xs past) refl

pub fold_two : {A B : Type 0} (f : B → A → B) (b : B) (xs ys : List A) → fold f (fold f b xs) ys ≡ fold f b (xs ++ ys)
fold_two f b xs ys = sym (fold-append f b xs ys)

pub fold_three : {A B : Type 0} (f : B → A → B) (b : B) (xs ys zs : List A) → fold f (fold f (fold f b xs) ys) zs ≡ fold f b (xs ++ ys ++ zs)
fold_three {B = B} f b xs ys zs = ap (λ (c : B). fold f c zs) (fold_two f b xs ys) ∙ fold_two f b (xs ++ ys) zs
