use Rattle.std.proofs.Common.{◌≡◌, ◌++◌, flat_map, take}
use Rattle.film_runs.specs.FilmModel.Part.{number_text}
use Rattle.film_runs.proofs.heads.push_numbers.Given as goal

abbrev pub invariant-numbers : goal.invariant-numbers
invariant-numbers l = l.out.items ≡ l.fn.out.items ++ flat_map number_text (take l.number-index l.numbers)
