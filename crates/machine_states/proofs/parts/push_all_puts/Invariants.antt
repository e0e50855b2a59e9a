use Rattle.std.proofs.Common.{◌≡◌, ◌++◌, flat_map, take}
use Rattle.time_laws.specs.Forget.{puts_of}
use Rattle.explorer.specs.StateKeys.Key.{put_words}
use Rattle.machine_states.proofs.parts.push_all_puts.Given as goal

abbrev pub invariant-loop-leaf : goal.invariant-loop-leaf
invariant-loop-leaf g l = l.out.items ≡ l.initial.out.items ++ flat_map put_words (take l.leaf (puts_of l.machine.machine))
