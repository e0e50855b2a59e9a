use Rattle.std.proofs.Common.{◌≡◌, ◌≤◌, drop}
use Rattle.std.specs.Prelude.{slice_index}
use Rattle.tree_config.specs.ShapeScan.{depths_in}
use Rattle.tree_config.proofs.shape_text.first_depth.Given as goal

abbrev pub invariant-reading : goal.invariant-reading
invariant-reading l = (slice_index (depths_in 0 l.text) 0 ≡ slice_index (depths_in l.depth (drop l.byte-index l.text)) 0) × (l.depth ≤ l.byte-index)
