use Rattle.std.proofs.Common.{◌≡◌, map}
use Rattle.std.specs.List.{range_with_len}
use Rattle.recording.specs.AnyMachine.Any.{machine_state}
use Rattle.measure_model.specs.Lengths.{lengths_in}
use Rattle.measuring.proofs.starting.first_in.Given as goal

abbrev pub invariant-loop-leaf : goal.invariant-loop-leaf
invariant-loop-leaf l = l.most.items ≡ map (λ k. lengths_in k (machine_state l.machine).machine) (range_with_len 0 l.leaf)
