-- What is true of each hart's registers.
use Rattle.std.specs.Prelude.{◌≡◌, length, slice_index}
use Rattle.rv_flat.specs.FlatModel.Hart.{HartValue}

-- there are 32 registers, and the first of them is 0
pub record IsHart (h : HartValue) : Type 0 where
  pub count : length h.registers ≡ 32
  pub zero : slice_index h.registers 0 ≡ 0
