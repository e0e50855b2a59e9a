use Rattle.std.proofs.Common.{◌≡◌, ◌++◌, drop, flat_map}
use Rattle.film.specs.TreeModel.Turns.Machine.{machine_leaves}
use Rattle.film.specs.FilmModel.Leaf.{leaf_parts}
use Rattle.film.proofs.stills.add_leaves.Given as goal

abbrev pub invariant-leaves : goal.invariant-leaves
invariant-leaves g l = l.still ++ flat_map leaf_parts (drop l.leaf (machine_leaves l.machine.machine)) ≡ l.fn.still ++ flat_map leaf_parts (machine_leaves l.machine.machine)
