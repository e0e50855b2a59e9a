-- Two lists, element by element.
use Rattle.std.proofs.Common.{◌≡◌, List, [], ◌∷◌, ◌++◌, map, refl, ap, ◌∙◌}
use Rattle.order_laws.specs.Pairs.{Pairs}

module _ {X : Type 0} (R : X → X → Type 0) where
  pub pairs-append : (xs ys us vs : List X) → Pairs R xs ys → Pairs R us vs → Pairs R (xs ++ us) (ys ++ vs)
  pairs-append [] [] us vs h k = k
  pairs-append [] (y ∷ ys) us vs h k = absurd h
  pairs-append (x ∷ xs) [] us vs h k = absurd h
  pairs-append (x ∷ xs) (y ∷ ys) us vs h k = (h.0, pairs-append xs ys us vs h.1 k)

  pub pairs-map : (f : X → X) → ((x y : X) → R x y → R (f x) (f y)) → (xs ys : List X) → Pairs R xs ys → Pairs R (map f xs) (map f ys)
  pairs-map f g [] [] h = tt
  pairs-map f g [] (y ∷ ys) h = absurd h
  pairs-map f g (x ∷ xs) [] h = absurd h
  pairs-map f g (x ∷ xs) (y ∷ ys) h = (g x y h.0, pairs-map f g xs ys h.1)

  pub pairs-itself : ((x : X) → R x x) → (xs : List X) → Pairs R xs xs
  pairs-itself h [] = tt
  pairs-itself h (x ∷ xs) = (h x, pairs-itself h xs)

  pub pairs-same : ((x y : X) → R x y → y ≡ x) → (xs ys : List X) → Pairs R xs ys → ys ≡ xs
  pairs-same f [] [] h = refl
  pairs-same f [] (y ∷ ys) h = absurd h
  pairs-same f (x ∷ xs) [] h = absurd h
  pairs-same f (x ∷ xs) (y ∷ ys) h = ap (λ z. z ∷ ys) (f x y h.0) ∙ ap (λ zs. x ∷ zs) (pairs-same f xs ys h.1)
