use Rattle.std.proofs.Common.{◌≡◌, ◌++◌, drop}
use Rattle.film_runs.specs.Levels.{levels_from}
use Rattle.film_runs.proofs.levels.push_levels.Given as goal

abbrev pub invariant-levels : goal.invariant-levels
invariant-levels l = l.out.items ++ levels_from l.above (drop l.above l.tree.levels) ≡ l.initial.out.items ++ levels_from 0 l.tree.levels
