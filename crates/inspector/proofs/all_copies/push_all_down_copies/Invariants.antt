use Rattle.std.proofs.Common.{◌≡◌, ◌++◌, [], take}
use Rattle.std.specs.Prelude.{unwrap_or}
use Rattle.std.specs.List.{flat_map}
use Rattle.inspector.specs.Copies.{buses_of, down_copies, down_of}
use Rattle.inspector.proofs.all_copies.push_all_down_copies.Given as goal

abbrev pub invariant-loop-number : goal.invariant-loop-number
invariant-loop-number g l = l.places.items ≡ l.initial.places.items ++ flat_map (λ bus. down_copies l.item bus 0 (unwrap_or (down_of bus l.machine.machine) [])) (take l.number (buses_of l.machine.machine))
