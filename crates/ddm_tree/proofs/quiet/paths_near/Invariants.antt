use Rattle.std.proofs.Common.{map, vec_items}
use Rattle.ddm_tree.proofs.QuietNear.{AreNearBelow}
use Rattle.ddm_tree.proofs.quiet.paths_near.Given as goal

abbrev pub invariant-loop-number : goal.invariant-loop-number
invariant-loop-number l = AreNearBelow l.number l.path l.near.items (map vec_items l.others)
