use Rattle.std.proofs.Common.{◌≡◌, map}
use Rattle.std.specs.List.{range_with_len}
use Rattle.recording.specs.AnyMachine.Any.{machine_state}
use Rattle.measure_model.specs.Lengths.{lengths_over}
use Rattle.measuring.proofs.starting.first_over.Given as goal

abbrev pub invariant-loop-bus : goal.invariant-loop-bus
invariant-loop-bus l = l.most.items ≡ map (λ b. lengths_over b (machine_state l.machine).machine) (range_with_len 0 l.bus)
