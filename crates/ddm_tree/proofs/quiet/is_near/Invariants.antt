use Rattle.std.proofs.Common.{◌≡◌, false}
use Rattle.ddm_tree.specs.Quiet.{AreApart}
use Rattle.ddm_tree.proofs.quiet.is_near.Given as goal

abbrev pub invariant-loop-level : goal.invariant-loop-level
invariant-loop-level l = l.same ≡ false → AreApart l.path l.other
