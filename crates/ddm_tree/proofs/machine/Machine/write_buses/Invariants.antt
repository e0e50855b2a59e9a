use Rattle.std.specs.List.{flat_map, range_with_len}
use Rattle.ddm_tree.specs.DdmText.Adds.{Adds}
use Rattle.ddm_tree.specs.StateWords.Machine.{bus_words}
use Rattle.ddm_tree.proofs.machine.Machine.write_buses.Given as goal

abbrev pub invariant-loop-bus : goal.invariant-loop-bus
invariant-loop-bus g l = Adds l.initial.out.items l.out.items (flat_map (bus_words l.self.machine) (range_with_len 0 l.bus))
