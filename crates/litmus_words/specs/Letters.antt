-- The letters of a fence's set, of which some are read.
use Rattle.std.specs.Prelude.{ℕ, ◌+◌, List, drop, Option}
use Rattle.std.specs.Option.{option_map}
use Rattle.litmus_model.specs.Operands.{Letter, letter_bits}
use Rattle.litmus_words.specs.declared.letters.Taken.{Taken}

-- the bits of all, where these letters may follow
unfoldable pub bits_left : Taken → List Letter → List ℕ → Option ℕ
bits_left t letters word = option_map (λ n. t.bits + n) (letter_bits letters (drop t.at word))
