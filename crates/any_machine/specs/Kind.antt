-- Of which kind a machine of any tree is: machines of one tree and image are of one kind, whatever turns they made.
-- To be believed with the contracts: they speak of it.
use Rattle.std.specs.Prelude.{ℕ}
use Rattle.any_machine.specs.declared.machine.AnyMachine.{AnyMachine}
use Rattle.any_machine.specs.declared.machine.AnyMachine.TheVariants.{Narrow, Wide}
use Rattle.any_machine.specs.declared.machine.Depths.{Depths}
use Rattle.any_machine.specs.declared.machine.Depths.TheVariants.{OneLevel, TwoLevels, ThreeLevels, FourLevels}
use Rattle.any_machine.specs.declared.machine.Machines.{Machines}
use Rattle.any_machine.specs.declared.machine.Machines.TheVariants.{OneWay, TwoWays, FourWays}

-- how many levels of buses are above its leaves, how many ways these have, and how many words an item
pub record Kind : Type 0 where
  pub levels : ℕ
  pub ways : ℕ
  pub width : ℕ

abbrev pub levels_in : {ways width : ℕ} → Depths ways width → ℕ
levels_in (OneLevel s) = 1
levels_in (TwoLevels s) = 2
levels_in (ThreeLevels s) = 3
levels_in (FourLevels s) = 4

abbrev pub kind_in : {width : ℕ} → Machines width → Kind
kind_in {width} (OneWay m) = record { levels = levels_in m; ways = 1; width = width }
kind_in {width} (TwoWays m) = record { levels = levels_in m; ways = 2; width = width }
kind_in {width} (FourWays m) = record { levels = levels_in m; ways = 4; width = width }

abbrev pub kind_of : AnyMachine → Kind
kind_of (Narrow m) = kind_in m
kind_of (Wide m) = kind_in m
