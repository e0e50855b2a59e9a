use Rattle.std.proofs.Common.{map, vec_items}
use Rattle.ddm_tree.proofs.QuietNear.{AreNearFor}
use Rattle.ddm_tree.proofs.quiet.near_lists.Given as goal

abbrev pub invariant-loop-number : goal.invariant-loop-number
invariant-loop-number l = AreNearFor l.number (map vec_items l.nears.items) (map vec_items l.paths) (map vec_items l.others)
