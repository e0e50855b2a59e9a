use Rattle.std.proofs.Common.{◌≡◌, ◌++◌, drop}
use Rattle.film_runs.proofs.HeadLines.{all_widths}
use Rattle.film_runs.proofs.heads.push_widths.Given as goal

abbrev pub invariant-levels : goal.invariant-levels
invariant-levels l = l.out.items ++ all_widths (drop l.level l.tree.levels) ≡ l.initial.out.items ++ all_widths l.tree.levels
