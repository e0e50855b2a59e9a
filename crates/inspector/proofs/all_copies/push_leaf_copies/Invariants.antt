use Rattle.std.proofs.Common.{◌≡◌, ◌++◌, take}
use Rattle.std.specs.List.{flat_map}
use Rattle.inspector.specs.TreeModel.Turns.Machine.{machine_leaves}
use Rattle.inspector.specs.Copies.{leaf_copies}
use Rattle.inspector.proofs.all_copies.push_leaf_copies.Given as goal

abbrev pub invariant-loop-number : goal.invariant-loop-number
invariant-loop-number g l = l.places.items ≡ l.initial.places.items ++ flat_map (leaf_copies l.item) (take l.number (machine_leaves l.machine.machine))
