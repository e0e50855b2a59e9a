use Rattle.std.proofs.Common.{◌≡◌, drop}
use Rattle.std.specs.List.{list_all}
use Rattle.outcomes.specs.AnyMachine.Any.{state_in}
use Rattle.outcomes.proofs.Ends.{end_halted, ends_of}
use Rattle.outcomes.proofs.ending.have_halted.Given as goal

abbrev pub invariant-loop-leaf : goal.invariant-loop-leaf
invariant-loop-leaf g l = list_all end_halted (ends_of (state_in l.machine).machine) ≡ list_all end_halted (drop l.leaf (ends_of (state_in l.machine).machine))
