use Rattle.std.proofs.Common.{◌≡◌, ◌++◌, flat_map, take}
use Rattle.tree_model.specs.Turns.Machine.{machine_leaves}
use Rattle.state_words.specs.Parts.{leaf_words}
use Rattle.machine_states.proofs.parts.push_leaves.Given as goal

abbrev pub invariant-loop-leaf : goal.invariant-loop-leaf
invariant-loop-leaf g l = l.out.items ≡ l.initial.out.items ++ flat_map leaf_words (take l.leaf (machine_leaves l.machine.machine))
