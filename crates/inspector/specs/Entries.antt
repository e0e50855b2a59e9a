-- Where what a machine's calls give of a leaf's entry, of parking and of a down list is a copy of an item.
-- Letters: e is an entry, x an item.
use Rattle.std.specs.Prelude.{ℕ, ◌&&◌, nat_eq, List, Option, Some, None, if◌then◌else◌}
use Rattle.inspector.specs.DdmTypes.declared.sizes.LeafState.{LeafState}
use Rattle.inspector.specs.TreeModel.declared.CopyPlace.{CopyPlace}
use Rattle.inspector.specs.TreeModel.declared.LeafSpot.{LeafSpot}
use Rattle.inspector.specs.TreeModel.State.Kinds.{brings_copy}
use Rattle.inspector.specs.TreeModel.State.States.{is_reading}
use Rattle.inspector.specs.TreeModel.State.Values.{DownValue}
use Rattle.inspector.specs.TreeModel.Turns.Found.{place_at}

abbrev pub entry_copy : ℕ → Option (LeafState × List ℕ × LeafSpot) → Option CopyPlace
entry_copy leaf None = None
entry_copy leaf (Some (state, words, spot)) = if is_reading state then None else Some (place_at leaf spot)

abbrev pub parked_copy : ℕ → Option (ℕ × List ℕ) → Option CopyPlace
parked_copy bus None = None
parked_copy bus (Some (place, words)) = Some (CopyPlace.Parking bus place)

abbrev pub down_copy : ℕ → ℕ → ℕ → Option DownValue → Option CopyPlace
down_copy x bus place None = None
down_copy x bus place (Some e) = if nat_eq x e.item && brings_copy e.kind then Some (CopyPlace.DownList bus place) else None
