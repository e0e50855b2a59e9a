-- Two lists, element by element.
-- Proofs alone need it.
use Rattle.std.specs.Prelude.{List, [], ◌∷◌}

module _ {X : Type 0} (R : X → X → Type 0) where
  abbrev pub Pairs : List X → List X → Type 0
  Pairs [] [] = Unit {0}
  Pairs [] (y ∷ ys) = ⊥
  Pairs (x ∷ xs) [] = ⊥
  Pairs (x ∷ xs) (y ∷ ys) = R x y × Pairs xs ys
