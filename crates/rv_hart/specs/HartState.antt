-- A hart with the number of instructions that it has completed.
use Rattle.std.specs.Prelude.{ℕ}
use Rattle.flat_model.specs.Hart.{HartValue}

pub record HartState : Type 0 where
  pub hart : HartValue
  pub done : ℕ

-- the same number of instructions, and another hart
abbrev pub with_hart : HartState → HartValue → HartState
with_hart state hart = record state { hart = hart }
