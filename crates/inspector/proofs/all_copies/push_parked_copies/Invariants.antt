use Rattle.std.proofs.Common.{◌≡◌, ◌++◌, take}
use Rattle.std.specs.List.{flat_map}
use Rattle.inspector.specs.TreeModel.Turns.Machine.{parked_place_of}
use Rattle.inspector.specs.Copies.{buses_of, parked_copies}
use Rattle.inspector.proofs.all_copies.push_parked_copies.Given as goal

abbrev pub invariant-loop-number : goal.invariant-loop-number
invariant-loop-number g l = l.places.items ≡ l.initial.places.items ++ flat_map (λ bus. parked_copies bus (parked_place_of bus l.item l.machine.machine)) (take l.number (buses_of l.machine.machine))
