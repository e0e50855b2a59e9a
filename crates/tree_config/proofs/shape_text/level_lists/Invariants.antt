use Rattle.std.proofs.Common.{◌≡◌, map}
use Rattle.std.specs.List.{range_with_len}
use Rattle.tree_config.specs.Lists.{lists_of}
use Rattle.tree_config.specs.ShapeScan.{widths_in}
use Rattle.tree_config.proofs.shape_text.level_lists.Given as goal

abbrev pub invariant-level : goal.invariant-level
invariant-level l = lists_of l.levels.items ≡ map (λ level. widths_in level 0 0 l.text) (range_with_len 0 l.level)
