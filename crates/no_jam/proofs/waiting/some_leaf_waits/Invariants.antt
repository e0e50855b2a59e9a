use Rattle.any_machine.specs.Any.{machine_state}
use Rattle.no_jam.proofs.LeafWaits.{NoneBelow}
use Rattle.no_jam.proofs.waiting.some_leaf_waits.Given as goal

abbrev pub invariant-loop-leaf : goal.invariant-loop-leaf
invariant-loop-leaf l = NoneBelow l.leaf (machine_state l.machine).machine
