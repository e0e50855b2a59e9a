-- The rounds that there are: the last eight bits of a word say which round it is.
use Rattle.std.specs.Prelude.{ℕ, List, map}
use Rattle.std.specs.List.{range_with_len}
use Rattle.made_image.specs.MadeImage.{program_bytes, round_of}

abbrev pub round_bytes : ℕ → List ℕ
round_bytes word = program_bytes (round_of word)

-- the rounds of the words below this number
unfoldable pub first_rounds : ℕ → List (List ℕ)
first_rounds count = map round_bytes (range_with_len 0 count)
