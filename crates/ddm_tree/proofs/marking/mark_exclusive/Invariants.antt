use Rattle.std.proofs.Common.{◌≡◌, map, take}
use Rattle.ddm_tree.specs.TreeModel.Start.Nodes.{item_is_exclusive, or_each}
use Rattle.ddm_tree.proofs.marking.mark_exclusive.Given as goal

abbrev pub invariant-loop-item : goal.invariant-loop-item
invariant-loop-item g l = l.held ≡ or_each l.fn.held (take l.item (map item_is_exclusive l.fn.state.items))
