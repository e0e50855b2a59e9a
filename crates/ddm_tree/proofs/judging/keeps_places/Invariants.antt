use Rattle.std.proofs.Common.{◌≡◌, ◌+◌, ◌≤◌, drop}
use Rattle.std.specs.List.{range_with_len}
use Rattle.ddm_tree.specs.TreeRules.Bus.Rules.{kept_places}
use Rattle.ddm_tree.proofs.judging.keeps_places.Given as goal

abbrev pub invariant-loop-item : goal.invariant-loop-item
invariant-loop-item g l = (l.kept + kept_places (g.P.Parent.state l.fn.parent) (drop l.item (range_with_len 0 l.fn.items)) ≡ kept_places (g.P.Parent.state l.fn.parent) (range_with_len 0 l.fn.items)) × (l.kept ≤ l.item)
