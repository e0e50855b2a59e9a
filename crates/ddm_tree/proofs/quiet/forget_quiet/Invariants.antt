use Rattle.std.proofs.Common.{◌≡◌, ◌<◌, ℕ, [], replicate}
use Rattle.std.specs.Prelude.{slice_index_or}
use Rattle.ddm_tree.specs.declared.quiet.Known.{Known}
use Rattle.ddm_tree.proofs.quiet.forget_quiet.Given as goal

abbrev pub invariant-loop-place : goal.invariant-loop-place
invariant-loop-place l = (i : ℕ) → i < l.place → slice_index_or l.known i [] ≡ replicate 128 Known.Nothing
