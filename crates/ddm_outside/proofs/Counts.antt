-- What it means that a count rose.
use Rattle.std.proofs.Common.{◌≡◌, ℕ, ◌-◌, ◌^◌, ◌<◌, ◌≤◌, ◌⊎◌, inl, inr, arith}
use Rattle.std.specs.Prelude.{◌↔◌}
use Rattle.std.proofs.lemmas.Bool.{cases_lt}
use Rattle.ddm_outside.specs.Causes.{Rose}

-- a count of 64 bits rose exactly where it is greater now or has its last value
pub Rose-is : (before now : ℕ) → now < 2 ^ 64 → Rose before now ↔ ((before < now) ⊎ (now ≡ 2 ^ 64 - 1))
Rose-is before now fits = (
  λ rose. elim (cases_lt before now) [ inl less ↦ inl less | inr same ↦ inr (omega arith) ],
  λ either. elim either [ inl less ↦ omega arith | inr last ↦ omega arith ],
)

-- what rose in a part of a time rose in the whole
pub Rose-along : (first before now last : ℕ) → first ≤ before → Rose before now → now ≤ last → Rose first last
Rose-along first before now last early rose late = omega arith
