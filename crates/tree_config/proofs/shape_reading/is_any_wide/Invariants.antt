use Rattle.std.proofs.Common.{◌≡◌}
use Rattle.std.specs.Prelude.{nat_lt}
use Rattle.std.specs.List.{list_any}
use Rattle.tree_config.proofs.Widths.{widths_from}
use Rattle.tree_config.proofs.shape_reading.is_any_wide.Given as goal

abbrev pub invariant-level : goal.invariant-level
invariant-level l = list_any (nat_lt 16) (widths_from l.levels 0) ≡ list_any (nat_lt 16) (widths_from l.levels l.level-index)
