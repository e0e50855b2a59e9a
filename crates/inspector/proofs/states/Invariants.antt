use Rattle.std.proofs.Common.{◌≡◌, take}
use Rattle.inspector.specs.TreeModel.Turns.Found.{states_of}
use Rattle.inspector.proofs.states.Given as goal

abbrev pub invariant-loop-leaf : goal.invariant-loop-leaf
invariant-loop-leaf g l = l.states.items ≡ take l.leaf (states_of l.item l.machine.machine)
