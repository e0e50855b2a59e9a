use Rattle.std.proofs.Common.{◌≡◌}
use Rattle.std.specs.Prelude.{slice_get}
use Rattle.ddm_tree.proofs.QuietIndex.{IsForgotten}
use Rattle.ddm_tree.proofs.quiet.forget_bus.Given as goal

abbrev pub invariant-loop-place : goal.invariant-loop-place
invariant-loop-place l = IsForgotten l.place l.quiet × (slice_get l.quiet 0 ≡ slice_get l.initial.quiet 0)
