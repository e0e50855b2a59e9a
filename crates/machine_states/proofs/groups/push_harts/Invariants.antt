use Rattle.std.proofs.Common.{◌≡◌, ◌++◌, flat_map}
use Rattle.std.specs.List.{range_with_len}
use Rattle.machine_states.specs.Listed.{hart_turns}
use Rattle.machine_states.proofs.groups.push_harts.Given as goal

abbrev pub invariant-loop-leaf : goal.invariant-loop-leaf
invariant-loop-leaf l = l.turns.items ≡ l.initial.turns.items ++ flat_map (hart_turns l.ways) (range_with_len 0 l.leaf)
