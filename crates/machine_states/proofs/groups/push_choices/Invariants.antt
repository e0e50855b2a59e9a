use Rattle.std.proofs.Common.{◌≡◌, ◌++◌, map}
use Rattle.std.specs.List.{range_with_len}
use Rattle.ddm_types.specs.declared.turns.Turn.{Turn}
use Rattle.machine_states.proofs.groups.push_choices.Given as goal

abbrev pub invariant-loop-choice : goal.invariant-loop-choice
invariant-loop-choice l = l.turns.items ≡ l.initial.turns.items ++ map (λ choice. Turn.Leave l.bus l.child choice) (range_with_len 0 l.choice)
