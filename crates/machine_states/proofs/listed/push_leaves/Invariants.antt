use Rattle.std.proofs.Common.{◌≡◌, ◌++◌, take}
use Rattle.any_runs.specs.AnyMachine.Any.{machine_state}
use Rattle.explorer.specs.SearchModel.Tried.{leave_turns}
use Rattle.machine_states.specs.Listed.{parts_at}
use Rattle.machine_states.proofs.listed.push_leaves.Given as goal

abbrev pub invariant-loop-child : goal.invariant-loop-child
invariant-loop-child l = l.turns.items ≡ l.initial.turns.items ++ leave_turns l.bus 0 (take l.child (parts_at l.bus (machine_state l.machine).machine).kids)
