-- How many words the entries of lists have, where an item has so many.
-- To be believed with the contracts: they speak of it.
use Rattle.std.specs.Prelude.{◌≡◌, ℕ, length}
use Rattle.film_parts.specs.StateWords.Parts.{StandingValue}
use Rattle.film_parts.specs.TreeModel.State.Values.{DownValue}

abbrev pub IsWide : ℕ → DownValue → Type 0
IsWide width e = length e.words ≡ width

abbrev pub IsWideStanding : ℕ → StandingValue → Type 0
IsWideStanding width s = length s.entry.words ≡ width
