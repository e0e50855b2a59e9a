use Rattle.std.proofs.Common.{◌≡◌, ◌≤◌, ◌++◌, drop}
use Rattle.tree_config.specs.ShapeScan.{widths_in}
use Rattle.tree_config.proofs.shape_text.level_widths.Given as goal

abbrev pub invariant-reading : goal.invariant-reading
invariant-reading l =
    (l.widths.items ++ widths_in l.level l.depth l.count (drop l.byte-index l.text) ≡ widths_in l.level 0 0 l.text)
    × ((l.depth ≤ l.byte-index) × (l.count ≤ l.byte-index))
