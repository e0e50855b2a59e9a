use Rattle.std.proofs.Common.{map, vec_items}
use Rattle.ddm_tree.specs.TreeModel.State.Values.{DirValue, dir_node, nodes}
use Rattle.ddm_tree.specs.Idle.{AreSeen}
use Rattle.ddm_tree.specs.Quiet.{HartsAgree, IsNoneOf, KeepsBuses}
use Rattle.ddm_tree.proofs.idle.look_at_all.Given as goal

-- what is remembered of the leaves before this one is what they tell
abbrev pub invariant-loop-leaf : goal.invariant-loop-leaf
invariant-loop-leaf g l =
    ((d : DirValue) → AreSeen l.answered (λ k. IsNoneOf k l.leaf-index l.leaves) (map vec_items l.leaf_paths) (dir_node d (nodes (map g.C.Agent.value l.children))) l.initial.idle l.idle)
    × (HartsAgree l.initial.quiet l.initial.idle → HartsAgree l.quiet l.idle)
    × KeepsBuses l.initial.quiet l.quiet
