-- Words that were read: which words they are.
-- To be believed with the laws: it is what they speak of.
use Rattle.std.specs.Prelude.{◌≡◌, ℕ, ◌+◌, List, ◌++◌, length}

-- the words from number k on begin with these, and the rest begins at this number
pub record Spells (k : ℕ) (ws words : List ℕ) (at : ℕ) (rest : List ℕ) : Type 0 where
  pub words_are : ws ≡ words ++ rest
  pub next : at ≡ k + length words
