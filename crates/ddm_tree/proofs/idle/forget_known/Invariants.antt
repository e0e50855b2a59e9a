use Rattle.std.proofs.Common.{◌≡◌, ◌<◌, ℕ, Some}
use Rattle.std.specs.Prelude.{slice_get}
use Rattle.ddm_tree.specs.declared.idle.Idle.{Idle}
use Rattle.ddm_tree.proofs.idle.forget_known.Given as goal

-- those before this place are forgotten
abbrev pub invariant-loop-place : goal.invariant-loop-place
invariant-loop-place l = (k : ℕ) (i : Idle) → k < l.place → slice_get l.known k ≡ Some (Some i) → ⊥
