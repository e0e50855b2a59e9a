-- The bytes of a file that is kept as its words.
use Rattle.std.specs.Prelude.{ℕ, ◌<◌, List, [], ◌∷◌, ◌++◌, EachIndex, slice_index}
use Rattle.std.specs.List.{flat_map}
use Rattle.std.specs.Int.{w32, to_le_bytes}
use Rattle.checkpoint.specs.declared.file.Rest.{Rest}
use Rattle.checkpoint.specs.declared.file.Rest.TheVariants.{Nothing, One, Two, Three}

abbrev pub rest_bytes : Rest → List ℕ
rest_bytes Nothing = []
rest_bytes (One a) = a ∷ []
rest_bytes (Two a b) = a ∷ b ∷ []
rest_bytes (Three a b c) = a ∷ b ∷ c ∷ []

-- those of the words, the least of each first, and those behind them
abbrev pub bytes_in : List ℕ → Rest → List ℕ
bytes_in words rest = flat_map (to_le_bytes w32) words ++ rest_bytes rest

-- each is a number of 32 bits
abbrev pub AreWords : List ℕ → Type 0
AreWords words = EachIndex words (λ k. slice_index words k < 4294967296)
