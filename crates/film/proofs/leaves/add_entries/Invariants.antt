use Rattle.std.proofs.Common.{◌≡◌, ◌++◌, Some, drop, length}
use Rattle.std.specs.Prelude.{slice_get}
use Rattle.film.specs.DdmTypes.ItemTable.{item_count}
use Rattle.film.specs.TreeModel.State.Values.{LeafValue}
use Rattle.film.specs.TreeModel.Turns.Machine.{machine_leaves}
use Rattle.film.specs.FilmModel.Leaf.{entry_part}
use Rattle.film.specs.FilmModel.Part.{numbered}
use Rattle.film.proofs.leaves.add_entries.Given as goal

abbrev pub invariant-items : goal.invariant-items
invariant-items g l = (v : LeafValue) → slice_get (machine_leaves l.machine.machine) l.leaf ≡ Some v → length v.ways ≡ item_count l.machine.machine.items
    → l.still ++ numbered (entry_part l.leaf) l.item (drop l.item v.ways) ≡ l.fn.still ++ numbered (entry_part l.leaf) 0 v.ways
