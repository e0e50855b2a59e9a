use Rattle.std.proofs.Common.{◌≡◌, ◌++◌, map}
use Rattle.std.specs.List.{range_with_len}
use Rattle.ddm_types.specs.declared.turns.Turn.{Turn}
use Rattle.machine_states.proofs.groups.push_victims.Given as goal

abbrev pub invariant-loop-victim : goal.invariant-loop-victim
invariant-loop-victim l = l.turns.items ≡ l.initial.turns.items ++ map (λ victim. Turn.Hart l.hart victim) (range_with_len 0 l.victim)
