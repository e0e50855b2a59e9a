use Rattle.std.proofs.Common.{◌≡◌, false, None}
use Rattle.ddm_tree.specs.Idle.{NoneChanges}
use Rattle.ddm_tree.proofs.idle.may_any_change.Given as goal

-- nothing that is known of the leaves before this one may have changed, as far as none was found
abbrev pub invariant-loop-leaf : goal.invariant-loop-leaf
invariant-loop-leaf l = l.any ≡ false → NoneChanges None l.leaf-index l.leaves l.idle
