use Rattle.std.proofs.Common.{◌≡◌, ◌+◌, ◌≤◌, sum, drop}
use Rattle.tree_config.proofs.shape_reading.is_crowded.Given as goal

abbrev pub invariant-width : goal.invariant-width
invariant-width l = (sum l.level ≡ l.leaves + sum (drop l.width-index l.level)) × (l.leaves ≤ 64)
