-- The found copy of an item: from the top to the lowest child that holds it; at a directory the last data or inject of it in
-- the down list, else the parked copy, else on to the lowest child that holds it; at a leaf its entry.
-- Letters: m is a machine, v a leaf, d a directory over the nodes ns, e an entry, x an item.
-- To be believed: it is what the machine is.
use Rattle.std.specs.Prelude.{ℕ, ◌+◌, Bool, true, false, ◌&&◌, nat_eq, List, [], ◌∷◌, map, Option, Some, None, option_map, if◌then◌else◌}
use Rattle.tree_model.specs.DdmTypes.declared.sizes.LeafState.{LeafState}
use Rattle.tree_model.specs.declared.CopyPlace.{CopyPlace}
use Rattle.tree_model.specs.declared.LeafSpot.{LeafSpot}
use Rattle.tree_model.specs.State.Lists.{first_some}
use Rattle.tree_model.specs.State.Kinds.{brings_copy}
use Rattle.tree_model.specs.State.Values.{DownValue, LeafValue, Node, Nodes, leaf_node, dir_node, no_nodes, more_nodes, MachineValue}
use Rattle.tree_model.specs.State.Leaf.{LeafEntry, spot_at, leaf_entry, state_at}
use Rattle.tree_model.specs.State.Directory.{queue_of, parked_words, parked_place}
use Rattle.tree_model.specs.State.Child.{child_holds}
use Rattle.tree_model.specs.Turns.Machine.{machine_leaves}

-- ---- its words

abbrev pub words_of_entry : LeafEntry → List ℕ
words_of_entry e = e.words

abbrev pub last_words : Bool → List ℕ → Option (List ℕ) → Option (List ℕ)
last_words true words None = Some words
last_words true words (Some later) = Some later
last_words false words later = later

-- the words of the last data or inject of a queue
abbrev pub queue_words : List DownValue → Option (List ℕ)
queue_words [] = None
queue_words (e ∷ es) = last_words (brings_copy e.kind) e.words (queue_words es)

abbrev mutual
  pub words_found : ℕ → Node → Option (List ℕ)
  words_found x (leaf_node v) = option_map words_of_entry (leaf_entry x v)
  words_found x (dir_node d ns) = first_some (queue_words (queue_of x d.down)) (first_some (parked_words x d) (words_among x ns))

  -- of the lowest child that holds the item
  pub words_among : ℕ → Nodes → Option (List ℕ)
  words_among x no_nodes = None
  words_among x (more_nodes n ns) = if child_holds x n then words_found x n else words_among x ns

unfoldable pub found_words : ℕ → MachineValue → Option (List ℕ)
found_words x m = words_among x m.kids

-- ---- its place

abbrev pub place_at : ℕ → LeafSpot → CopyPlace
place_at leaf (LeafSpot.Way way) = CopyPlace.LeafWay leaf way
place_at leaf (LeafSpot.Buffer place) = CopyPlace.LeafBuffer leaf place

-- a leaf's entry
abbrev pub leaf_place : ℕ → LeafValue → Option CopyPlace
leaf_place x v = option_map (place_at v.number) (spot_at x v.ways v.buffer)

abbrev pub last_place : Bool → ℕ → Option ℕ → Option ℕ
last_place true k None = Some k
last_place true k (Some later) = Some later
last_place false k later = later

-- the place of the last data or inject of the item in a down list, whose first entry has the place k
abbrev pub down_place : ℕ → ℕ → List DownValue → Option ℕ
down_place x k [] = None
down_place x k (e ∷ es) = last_place (nat_eq x e.item && brings_copy e.kind) k (down_place x (k + 1) es)

abbrev mutual
  pub place_found : ℕ → Node → Option CopyPlace
  place_found x (leaf_node v) = leaf_place x v
  place_found x (dir_node d ns) =
      first_some (option_map (λ k. CopyPlace.DownList d.bus k) (down_place x 0 d.down))
      (first_some (option_map (λ k. CopyPlace.Parking d.bus k) (parked_place x d)) (place_among x ns))

  pub place_among : ℕ → Nodes → Option CopyPlace
  place_among x no_nodes = None
  place_among x (more_nodes n ns) = if child_holds x n then place_found x n else place_among x ns

unfoldable pub found_place : ℕ → MachineValue → Option CopyPlace
found_place x m = place_among x m.kids

-- ---- both

pub record FoundValue : Type 0 where
  pub place : CopyPlace
  pub words : List ℕ

abbrev pub found_of : Option CopyPlace → Option (List ℕ) → Option FoundValue
found_of (Some place) (Some words) = Some (record { place = place; words = words })
found_of (Some place) None = None
found_of None words = None

unfoldable pub found_copy : ℕ → MachineValue → Option FoundValue
found_copy x m = found_of (found_place x m) (found_words x m)

-- the state of the item's entry at each leaf
unfoldable pub states_of : ℕ → MachineValue → List (Option LeafState)
states_of x m = map (state_at x) (machine_leaves m)
