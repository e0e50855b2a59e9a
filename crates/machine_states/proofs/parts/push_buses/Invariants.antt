use Rattle.std.proofs.Common.{◌≡◌, ◌++◌, flat_map}
use Rattle.std.specs.List.{range_with_len}
use Rattle.state_words.specs.Machine.{bus_words}
use Rattle.time_laws.specs.Forget.{forget}
use Rattle.machine_states.proofs.parts.push_buses.Given as goal

abbrev pub invariant-loop-bus : goal.invariant-loop-bus
invariant-loop-bus g l = l.out.items ≡ l.initial.out.items ++ flat_map (bus_words (forget l.machine.machine)) (range_with_len 0 l.bus)
