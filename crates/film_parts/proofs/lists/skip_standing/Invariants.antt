use Rattle.std.proofs.Common.{◌≡◌, ℕ, List, ◌++◌, drop, flat_map}
use Rattle.std.specs.List.{AllByRecursion}
use Rattle.film_parts.specs.Forms.{IsWideStanding}
use Rattle.film_parts.specs.StateWords.Parts.{StandingValue, counted, standing_words}
use Rattle.film_parts.proofs.lists.skip_standing.Given as goal

abbrev pub invariant-standing : goal.invariant-standing
invariant-standing l = (ss : List StandingValue) (rest : List ℕ) → l.fn.words ≡ counted standing_words ss ++ rest → AllByRecursion (IsWideStanding l.width) ss → l.words ≡ flat_map standing_words (drop l._place ss) ++ rest
