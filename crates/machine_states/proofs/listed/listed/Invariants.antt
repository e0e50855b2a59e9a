use Rattle.std.proofs.Common.{◌≡◌, ◌++◌, flat_map, take}
use Rattle.any_runs.specs.AnyMachine.Any.{machine_state}
use Rattle.explorer.specs.SearchModel.Tried.{turns_of_bus}
use Rattle.machine_states.proofs.BusOrder.{ordered}
use Rattle.machine_states.proofs.listed.listed.Given as goal

abbrev pub invariant-loop-bus : goal.invariant-loop-bus
invariant-loop-bus l = l.turns.items ≡ l.initial.turns.items ++ flat_map turns_of_bus (take l.bus (ordered (machine_state l.machine).machine))
