use Rattle.std.proofs.Common.{◌≡◌, ◌++◌, drop, map}
use Rattle.std.specs.List.{range_with_len}
use Rattle.film.specs.DdmTypes.ItemTable.{item_count}
use Rattle.film.specs.FilmModel.Still.{place_part}
use Rattle.film.proofs.stills.add_copies.Given as goal

abbrev pub invariant-items : goal.invariant-items
invariant-items g l =
    l.still ++ map (place_part l.machine.machine) (drop l.item (range_with_len 0 (item_count l.machine.machine.items)))
    ≡ l.fn.still ++ map (place_part l.machine.machine) (range_with_len 0 (item_count l.machine.machine.items))
