-- All places where words of an item stand: entries of leaves, by the leaf's number; then parked copies, by the bus; then data and
-- injects in down lists, by the bus and by the place.
-- Letters: m is a machine, v a leaf, e an entry of a down list, x an item.
-- To be believed with the contracts: they speak of it.
use Rattle.std.specs.Prelude.{ℕ, ◌+◌, Bool, false, not, ◌&&◌, nat_eq, List, [], ◌∷◌, ◌++◌, Option, Some, None, unwrap_or, if◌then◌else◌}
use Rattle.std.specs.List.{flat_map, range_with_len}
use Rattle.inspector.specs.DdmTypes.declared.sizes.LeafState.{LeafState}
use Rattle.inspector.specs.TreeModel.declared.CopyPlace.{CopyPlace}
use Rattle.inspector.specs.TreeModel.State.Kinds.{brings_copy}
use Rattle.inspector.specs.TreeModel.State.States.{is_reading}
use Rattle.inspector.specs.TreeModel.State.Values.{DownValue, LeafValue, MachineValue}
use Rattle.inspector.specs.TreeModel.State.Leaf.{state_at}
use Rattle.inspector.specs.TreeModel.State.Shape.{tree_counts}
use Rattle.inspector.specs.TreeModel.Turns.Found.{leaf_place}
use Rattle.inspector.specs.TreeModel.Turns.Machine.{ask_bus, machine_leaves, parked_place_of}

-- an entry that waits for data has no words
abbrev pub has_words : Option LeafState → Bool
has_words None = false
has_words (Some state) = not (is_reading state)

abbrev pub place_list : Option CopyPlace → List CopyPlace
place_list None = []
place_list (Some place) = place ∷ []

abbrev pub leaf_copies : ℕ → LeafValue → List CopyPlace
leaf_copies x v = if has_words (state_at x v) then place_list (leaf_place x v) else []

abbrev pub parked_copies : ℕ → Option (Option ℕ) → List CopyPlace
parked_copies bus None = []
parked_copies bus (Some None) = []
parked_copies bus (Some (Some place)) = CopyPlace.Parking bus place ∷ []

-- of a down list whose first entry has the place k
abbrev pub down_copies : ℕ → ℕ → ℕ → List DownValue → List CopyPlace
down_copies x bus k [] = []
down_copies x bus k (e ∷ es) =
    place_list (if nat_eq x e.item && brings_copy e.kind then Some (CopyPlace.DownList bus k) else None)
    ++ down_copies x bus (k + 1) es

-- the down list over a bus
abbrev pub down_of : ℕ → MachineValue → Option (List DownValue)
down_of bus m = ask_bus bus (λ w d ns. d.down) [] m

abbrev pub buses_of : MachineValue → List ℕ
buses_of m = range_with_len 0 (tree_counts m).buses

unfoldable pub copies_in : ℕ → MachineValue → List CopyPlace
copies_in x m =
    flat_map (leaf_copies x) (machine_leaves m)
    ++ flat_map (λ bus. parked_copies bus (parked_place_of bus x m)) (buses_of m)
    ++ flat_map (λ bus. down_copies x bus 0 (unwrap_or (down_of bus m) [])) (buses_of m)
