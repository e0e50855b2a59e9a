use Rattle.std.proofs.Common.{take}
use Rattle.outcomes.specs.DdmText.Adds.{Adds}
use Rattle.outcomes.specs.AnyMachine.Any.{state_in}
use Rattle.outcome_model.specs.Outcome.{ends_text}
use Rattle.outcomes.proofs.Ends.{ends_of}
use Rattle.outcomes.proofs.ending.push_ends.Given as goal

abbrev pub invariant-loop-leaf : goal.invariant-loop-leaf
invariant-loop-leaf g l = Adds l.initial.out.items l.out.items (ends_text (state_in l.machine).machine.ops (take l.leaf (ends_of (state_in l.machine).machine)))
