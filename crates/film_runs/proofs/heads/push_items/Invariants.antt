use Rattle.std.proofs.Common.{◌≡◌, ◌++◌, drop}
use Rattle.film_runs.specs.FilmModel.Film.{item_lines}
use Rattle.film_runs.proofs.heads.push_items.Given as goal

abbrev pub invariant-items : goal.invariant-items
invariant-items l = l.out.items ++ item_lines l.item (drop l.item l.items.rows) ≡ l.initial.out.items ++ item_lines 0 l.items.rows
