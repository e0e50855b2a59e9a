use Rattle.any_machine.specs.Any.{machine_state}
use Rattle.no_jam.proofs.LeafWaits.{RestsBelow}
use Rattle.no_jam.proofs.waiting.leaf_waits.Given as goal

abbrev pub invariant-loop-item : goal.invariant-loop-item
invariant-loop-item l = RestsBelow l.item l.leaf (machine_state l.machine).machine
