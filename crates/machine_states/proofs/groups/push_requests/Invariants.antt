use Rattle.std.proofs.Common.{◌≡◌, ◌++◌, map}
use Rattle.std.specs.List.{range_with_len}
use Rattle.ddm_types.specs.declared.turns.Turn.{Turn}
use Rattle.machine_states.proofs.groups.push_requests.Given as goal

abbrev pub invariant-loop-child : goal.invariant-loop-child
invariant-loop-child l = l.turns.items ≡ l.initial.turns.items ++ map (Turn.Request l.bus) (range_with_len 0 l.child)
