use Rattle.std.proofs.Common.{◌≡◌, ◌≤◌, drop, nat_eq, not}
use Rattle.std.specs.List.{list_any}
use Rattle.tree_config.specs.ShapeScan.{depths_in}
use Rattle.tree_config.proofs.shape_text.has_other_depth.Given as goal

abbrev pub invariant-reading : goal.invariant-reading
invariant-reading l =
    (list_any (λ d. not (nat_eq d l.first)) (depths_in 0 l.text) ≡ list_any (λ d. not (nat_eq d l.first)) (depths_in l.depth (drop l.byte-index l.text)))
    × (l.depth ≤ l.byte-index)
