-- The rules that a machine keeps from its first turn on, and what a turn keeps of the order of its witness.
-- Letters: m is a machine, s a flat machine.
-- To be believed with the contracts: they say what whoever holds a machine can rely on.
use Rattle.ddm_tree.specs.FlatModel.Flat.{FlatMachine}
use Rattle.ddm_tree.specs.TreeModel.State.Values.{MachineValue}
use Rattle.ddm_tree.specs.TreeRules.Bus.Rules.{IsMachineOk}
use Rattle.ddm_tree.specs.TreeRules.Order.Rules.{IsTimed, IsCore}
use Rattle.ddm_tree.specs.TreeRules.Witness.{IsWitnessed}

-- the rules of every bus, and those of time
unfoldable pub KeepsRules : MachineValue → Type 0
KeepsRules m = IsMachineOk m × IsTimed m

-- From whatever start the core rules of order hold before, they hold after, and the machine's operations in key order are one run of
-- the flat machine from that start, with its harts and its words.
unfoldable pub StaysInOrder : MachineValue → MachineValue → Type 0
StaysInOrder before after = (s : FlatMachine) → IsCore s before → IsCore s after × IsWitnessed s after
