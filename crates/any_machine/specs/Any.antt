-- The value of a machine of any tree.
-- To be believed with the contracts: they speak of it.
use Rattle.std.specs.Prelude.{ℕ}
use Rattle.any_machine.specs.DdmTree.Machine.{MachineState}
use Rattle.any_machine.specs.declared.machine.AnyMachine.{AnyMachine}
use Rattle.any_machine.specs.declared.machine.AnyMachine.TheVariants.{Narrow, Wide}
use Rattle.any_machine.specs.declared.machine.Depths.{Depths}
use Rattle.any_machine.specs.declared.machine.Depths.TheVariants.{OneLevel, TwoLevels, ThreeLevels, FourLevels}
use Rattle.any_machine.specs.declared.machine.Machines.{Machines}
use Rattle.any_machine.specs.declared.machine.Machines.TheVariants.{OneWay, TwoWays, FourWays}

-- whatever its depth
abbrev pub depths_state : {ways width : ℕ} → Depths ways width → MachineState
depths_state (OneLevel s) = s
depths_state (TwoLevels s) = s
depths_state (ThreeLevels s) = s
depths_state (FourLevels s) = s

-- whatever its ways
abbrev pub state_in : {width : ℕ} → Machines width → MachineState
state_in (OneWay m) = depths_state m
state_in (TwoWays m) = depths_state m
state_in (FourWays m) = depths_state m

-- and whatever the words of its items
abbrev pub machine_state : AnyMachine → MachineState
machine_state (Narrow m) = state_in m
machine_state (Wide m) = state_in m
