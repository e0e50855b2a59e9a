-- The directory over the bus of a number, and its children; an entry of a leaf by where it stands.
-- Letters: d is a directory over the nodes ns, m a machine.
-- To be believed with the contracts: they speak of it.
use Rattle.std.specs.Prelude.{◌≡◌, ℕ, List, Option, Some, None}
use Rattle.film.specs.DdmTypes.declared.sizes.LeafState.{LeafState}
use Rattle.film.specs.TreeModel.declared.LeafSpot.{LeafSpot}
use Rattle.film.specs.TreeModel.State.Values.{DirValue, Node, MachineValue, WayValue}
use Rattle.film.specs.TreeModel.Turns.Machine.{ask_bus}

abbrev pub dir_over : ℕ → MachineValue → Option (Option (DirValue × List Node))
dir_over bus m = ask_bus bus (λ w d ns. Some (d, ns)) None m

abbrev pub IsOver : ℕ → DirValue → List Node → MachineValue → Type 0
IsOver bus d ns m = dir_over bus m ≡ Some (Some (d, ns))

-- an entry in a way; one in the buffer is in none
abbrev pub way_of : LeafSpot → LeafState → List ℕ → Option WayValue
way_of (LeafSpot.Way way) state words = Some (record { way = way; state = state; words = words })
way_of (LeafSpot.Buffer place) state words = None

abbrev pub way_given : Option (LeafState × List ℕ × LeafSpot) → Option WayValue
way_given None = None
way_given (Some e) = way_of e.2 e.0 e.1
