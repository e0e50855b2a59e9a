use Rattle.std.proofs.Common.{◌≡◌, ◌≤◌, drop}
use Rattle.tree_config.specs.declared.shape_text.Progress.TheVariants as progress
use Rattle.tree_config.specs.ShapeScan.{open_count, place_from}
use Rattle.tree_config.proofs.shape_text.bad_place.Given as goal

abbrev pub invariant-reading : goal.invariant-reading
invariant-reading l = (place_from progress.Nothing 0 l.text ≡ place_from l.progress l.at (drop l.at l.text)) × (open_count l.progress ≤ l.at)
