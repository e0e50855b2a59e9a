use Rattle.std.proofs.Common.{◌≡◌}
use Rattle.std.specs.Prelude.{slice_get}
use Rattle.tree_config.proofs.Widths.{widths_from}
use Rattle.tree_config.proofs.shape.Shape.children.Given as goal

abbrev pub invariant-loop-level : goal.invariant-loop-level
invariant-loop-level l = slice_get (widths_from l.level-items 0) l.initial.index ≡ slice_get (widths_from l.level-items l.level-index) l.index
