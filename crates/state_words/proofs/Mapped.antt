-- The words of a list whose elements code has in another form.
use Rattle.std.proofs.Common.{◌≡◌, ℕ, List, [], ◌∷◌, ◌++◌, length, map, refl, ap}
use Rattle.std.specs.List.{flat_map}
use Rattle.std.proofs.lemmas.List.{length-map}
use Rattle.state_words.specs.Parts.{counted}

module _ {X Y : Type 0} (f : Y → List ℕ) (g : X → Y) where
  flat_mapped : (xs : List X) → flat_map f (map g xs) ≡ flat_map (λ x. f (g x)) xs
  flat_mapped [] = refl
  flat_mapped (x ∷ xs) = ap (λ t. f (g x) ++ t) (flat_mapped xs)

  pub counted-map : (xs : List X) → counted f (map g xs) ≡ counted (λ x. f (g x)) xs
  counted-map xs = rw (length-map xs g, flat_mapped xs) refl
