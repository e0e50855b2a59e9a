-- What a call puts at the end of a text or after the parts of a still, and which words it leaves.
-- To be believed with the contracts: they speak of it.
use Rattle.std.specs.Prelude.{◌≡◌, ℕ, List, ◌++◌}
use Rattle.film_parts.specs.DdmText.Adds.{Adds}
use Rattle.film_model.specs.Part.{Part}

-- the text grew by this one, and these words are left
pub record Puts (old new text words rest : List ℕ) : Type 0 where
  pub added : Adds old new text
  pub left : words ≡ rest

-- the parts grew by these, and these words are left
pub record Tells (old new parts : List Part) (words rest : List ℕ) : Type 0 where
  pub told : new ≡ old ++ parts
  pub left : words ≡ rest
