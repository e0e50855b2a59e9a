-- Filters of lists, and what is true of each element.
use Rattle.std.proofs.Common.{◌≡◌, Bool, true, false, ◌||◌, List, [], ◌∷◌, ◌++◌, filter, refl, sym, ap, ◌∙◌}
use Rattle.std.specs.List.{AllByRecursion, list_all, list_any}
use Rattle.std.proofs.lemmas.Bool.{and_parts}

module _ {X : Type 0} where
  pub filter-yes : (p : X → Bool) (x : X) (xs : List X) → p x ≡ true → filter p (x ∷ xs) ≡ x ∷ filter p xs
  filter-yes p x xs h = rw h refl

  pub filter-no : (p : X → Bool) (x : X) (xs : List X) → p x ≡ false → filter p (x ∷ xs) ≡ filter p xs
  filter-no p x xs h = rw h refl

  pub filter-all : (p : X → Bool) (xs : List X) → AllByRecursion (λ x. p x ≡ true) xs → filter p xs ≡ xs
  filter-all p [] h = refl
  filter-all p (x ∷ xs) h = filter-yes p x xs h.0 ∙ ap (λ ys. x ∷ ys) (filter-all p xs h.1)

  pub filter-none : (p : X → Bool) (xs : List X) → AllByRecursion (λ x. p x ≡ false) xs → filter p xs ≡ []
  filter-none p [] h = refl
  filter-none p (x ∷ xs) h = filter-no p x xs h.0 ∙ filter-none p xs h.1

  pub filter-same : (p q : X → Bool) (xs : List X) → AllByRecursion (λ x. p x ≡ q x) xs → filter p xs ≡ filter q xs
  filter-same p q [] h = refl
  filter-same p q (x ∷ xs) h = go (q x) refl (filter-same p q xs h.1) where
    go : (t : Bool) → q x ≡ t → filter p xs ≡ filter q xs → filter p (x ∷ xs) ≡ filter q (x ∷ xs)
    go true e rest = filter-yes p x xs (h.0 ∙ e) ∙ ap (λ ys. x ∷ ys) rest ∙ sym (filter-yes q x xs e)
    go false e rest = filter-no p x xs (h.0 ∙ e) ∙ rest ∙ sym (filter-no q x xs e)

  pub each-weaker : (P Q : X → Type 0) → ((x : X) → P x → Q x) → (xs : List X) → AllByRecursion P xs → AllByRecursion Q xs
  each-weaker P Q f [] h = tt
  each-weaker P Q f (x ∷ xs) h = (f x h.0, each-weaker P Q f xs h.1)

  pub each-both : (P Q R : X → Type 0) → ((x : X) → P x → Q x → R x) → (xs : List X) → AllByRecursion P xs → AllByRecursion Q xs → AllByRecursion R xs
  each-both P Q R f [] h k = tt
  each-both P Q R f (x ∷ xs) h k = (f x h.0 k.0, each-both P Q R f xs h.1 k.1)

  pub each-append : (P : X → Type 0) (xs ys : List X) → AllByRecursion P xs → AllByRecursion P ys → AllByRecursion P (xs ++ ys)
  each-append P [] ys h k = k
  each-append P (x ∷ xs) ys h k = (h.0, each-append P xs ys h.1 k)

  pub each-left : (P : X → Type 0) (xs ys : List X) → AllByRecursion P (xs ++ ys) → AllByRecursion P xs
  each-left P [] ys h = tt
  each-left P (x ∷ xs) ys h = (h.0, each-left P xs ys h.1)

  pub each-right : (P : X → Type 0) (xs ys : List X) → AllByRecursion P (xs ++ ys) → AllByRecursion P ys
  each-right P [] ys h = h
  each-right P (x ∷ xs) ys h = each-right P xs ys h.1

  pub each-filter : (P : X → Type 0) (p : X → Bool) (xs : List X) → AllByRecursion P xs → AllByRecursion P (filter p xs)
  each-filter P p [] h = tt
  each-filter P p (x ∷ xs) h = go (p x) refl (each-filter P p xs h.1) where
    go : (t : Bool) → p x ≡ t → AllByRecursion P (filter p xs) → AllByRecursion P (filter p (x ∷ xs))
    go true e rest = rw e (h.0, rest)
    go false e rest = rw e rest

  -- what holds of each that passes
  pub each-passing : (P : X → Type 0) (p : X → Bool) (xs : List X) → AllByRecursion (λ x. p x ≡ true → P x) xs → AllByRecursion P (filter p xs)
  each-passing P p [] h = tt
  each-passing P p (x ∷ xs) h = go (p x) refl (each-passing P p xs h.1) where
    go : (t : Bool) → p x ≡ t → AllByRecursion P (filter p xs) → AllByRecursion P (filter p (x ∷ xs))
    go true e rest = rw e (h.0 e, rest)
    go false e rest = rw e rest

  pub each-test : (p : X → Bool) (xs : List X) → list_all p xs ≡ true → AllByRecursion (λ x. p x ≡ true) xs
  each-test p [] h = tt
  each-test p (x ∷ xs) h = let parts : (p x ≡ true) × (list_all p xs ≡ true) = and_parts (p x) (list_all p xs) h in (parts.0, each-test p xs parts.1)

  -- one passes, and of each that passes it follows
  pub any-each : (p : X → Bool) (R : Type 0) (xs : List X) → list_any p xs ≡ true → AllByRecursion (λ x. p x ≡ true → R) xs → R
  any-each p R [] h k = absurd (let no : ⊥ = cc in no)
  any-each p R (x ∷ xs) h k = go (p x) refl h (λ i. any-each p R xs i k.1) where
    go : (t : Bool) → p x ≡ t → (t || list_any p xs) ≡ true → (list_any p xs ≡ true → R) → R
    go true e h rest = k.0 e
    go false e h rest = rest h

  -- what follows of each
  pub each-under : (A : Type 0) (P : X → Type 0) (xs : List X) → (A → AllByRecursion P xs) → AllByRecursion (λ x. A → P x) xs
  each-under A P [] h = tt
  each-under A P (x ∷ xs) h = ((λ a. (h a).0), each-under A P xs (λ a. (h a).1))

module _ {X Y : Type 0} (R : X → Y → Type 0) where
  each-none : (xs : List X) → AllByRecursion (λ x. AllByRecursion (R x) []) xs
  each-none [] = tt
  each-none (x ∷ xs) = (tt, each-none xs)

  -- each of each, the other way round
  pub each-swap : (xs : List X) (ys : List Y) → AllByRecursion (λ x. AllByRecursion (R x) ys) xs → AllByRecursion (λ y. AllByRecursion (λ x. R x y) xs) ys
  each-swap xs [] h = tt
  each-swap xs (y ∷ ys) h = (each-weaker _ _ (λ x k. k.0) xs h, each-swap xs ys (each-weaker _ _ (λ x k. k.1) xs h))
