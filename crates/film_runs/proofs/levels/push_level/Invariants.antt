use Rattle.std.proofs.Common.{◌≡◌, ◌++◌, map, take, ℕ}
use Rattle.film_runs.proofs.levels.push_level.Given as goal

abbrev pub invariant-widths : goal.invariant-widths
invariant-widths l = l.out.items ≡ l.fn.out.items ++ map (λ (width : ℕ). l.fn.above) (take l._width-index l.widths)
