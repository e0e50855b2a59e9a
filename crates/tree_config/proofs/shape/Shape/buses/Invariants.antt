use Rattle.std.proofs.Common.{◌≡◌, ◌+◌, length}
use Rattle.tree_config.proofs.Widths.{widths_from}
use Rattle.tree_config.proofs.shape.Shape.buses.Given as goal

abbrev pub invariant-loop-level : goal.invariant-loop-level
invariant-loop-level l = length (widths_from l.level-items 0) ≡ l.buses + length (widths_from l.level-items l.level-index)
