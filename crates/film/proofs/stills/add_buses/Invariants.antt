use Rattle.std.proofs.Common.{◌≡◌, ◌++◌, drop, flat_map, length}
use Rattle.std.specs.List.{range_with_len}
use Rattle.film.specs.FilmModel.Still.{bus_parts}
use Rattle.film.proofs.stills.add_buses.Given as goal

abbrev pub invariant-buses : goal.invariant-buses
invariant-buses g l =
    l.still ++ flat_map (bus_parts l.machine.machine) (drop l.bus (range_with_len 0 (length l.machine.machine.traffic)))
    ≡ l.fn.still ++ flat_map (bus_parts l.machine.machine) (range_with_len 0 (length l.machine.machine.traffic))
