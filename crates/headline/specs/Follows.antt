-- What follows from the rules of order in one state of a machine.
-- To be believed: it is what is claimed of every state.
use Rattle.headline.specs.FlatModel.Flat.{FlatMachine}
use Rattle.headline.specs.TreeModel.State.Values.{MachineValue}
use Rattle.headline.specs.TreeModel.State.Shape.{IsShaped}
use Rattle.headline.specs.TreeRules.Bus.Rules.{IsMachineOk}
use Rattle.headline.specs.TreeRules.Order.Rules.{IsTimed, IsCore, IsWritten}
use Rattle.headline.specs.TreeRules.Witness.{IsWitnessed}

-- the witness: what a reader is told of a machine and its operations
abbrev pub WitnessFollows : Type 0
WitnessFollows = (s : FlatMachine) (m : MachineValue) → IsShaped m → IsMachineOk m → IsTimed m → IsCore s m → IsWitnessed s m

-- and the written rules: a leaf is before its copy's end, a writer is alone and latest, what is beside a directory that holds an
-- item Exclusive is over, and changes are known
abbrev pub WrittenFollows : Type 0
WrittenFollows = (s : FlatMachine) (m : MachineValue) → IsShaped m → IsMachineOk m → IsTimed m → IsCore s m → IsWritten m
