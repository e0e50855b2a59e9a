-- How many buses are above each bus of a tree.
-- Letters: l is the numbers of children of the buses of a level, t a tree.
-- To be believed with the contracts: they speak of it.
use Rattle.std.specs.Prelude.{ℕ, ◌+◌, List, [], ◌∷◌, ◌++◌, map}
use Rattle.film_runs.specs.TreeModel.Start.Sources.{TreeValue}

-- of the buses of levels by number, where so many levels are above them
abbrev pub levels_from : ℕ → List (List ℕ) → List ℕ
levels_from above [] = []
levels_from above (l ∷ ls) = map (λ width. above) l ++ levels_from (above + 1) ls

abbrev pub bus_levels : TreeValue → List ℕ
bus_levels t = levels_from 0 t.levels
