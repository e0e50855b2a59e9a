-- The copies of an item in a machine: words of it in an entry of a leaf, in parking, in a reply list, or as data or inject in
-- a down list; and the erases of it that stand in down lists.
-- To be believed where a rule is relied on; the order of the witness needs no reader here.
use Rattle.std.specs.Prelude.{ℕ, ◌+◌, List, [], ◌∷◌, ◌++◌, map, Option, Some, None, if◌then◌else◌}
use Rattle.tree_rules.specs.DdmTypes.declared.answers.TxKind.TheVariants.{EraseTx}
use Rattle.tree_model.specs.State.Lists.{first_some}
use Rattle.tree_model.specs.State.Kinds.{is_kind, brings_copy}
use Rattle.tree_model.specs.State.States.{entry_hold, is_held}
use Rattle.tree_model.specs.State.Values.{DownValue, DirValue, Node, Nodes, leaf_node, dir_node, no_nodes, more_nodes, MachineValue}
use Rattle.tree_model.specs.State.Leaf.{words_of_item, LeafEntry, leaf_entry}
use Rattle.tree_model.specs.State.Directory.{queue_of}
use Rattle.tree_model.specs.State.Child.{child_replies}
use Rattle.tree_model.specs.State.Place.{Spot, spot_path, spot_in}
use Rattle.tree_rules.specs.Order.Moments.{moment_at, spot_moment}

-- A copy. Its place is the path of the leaf for an entry, of the directory for a copy in its parking or down list, and of the
-- bus's parent for a reply of one of its children. Its clock is a moment on the bus above its place: for an entry of a leaf,
-- of the present stamp of that bus; for data and inject in a down list, of their stamp; for a parked copy and a reply, of the
-- last stamp that the place's own bus took over. Its end is the moment of the erase that will end it, if one is under way.
pub record CopyAt : Type 0 where
  pub place : List ℕ
  pub clock : List ℕ
  pub end : Option (List ℕ)
  pub words : List ℕ

-- an erase above ends the copies that have no end yet
abbrev pub cut : Option (List ℕ) → CopyAt → CopyAt
cut erased k = record k { end = first_some k.end erased }

-- the moment of the first erase of a queue, on the bus of this path
abbrev pub first_erase : List ℕ → List DownValue → Option (List ℕ)
first_erase above [] = None
first_erase above (e ∷ es) = if is_kind EraseTx e.kind then Some (moment_at above e.stamp) else first_erase above es

-- the data and inject of a queue; the erase behind one ends it
abbrev pub downs : List ℕ → List ℕ → List DownValue → List CopyAt
downs place above [] = []
downs place above (e ∷ es) =
    if brings_copy e.kind
    then record {
      place = place;
      clock = moment_at above e.stamp;
      end = first_erase above es;
      words = e.words;
    } ∷ downs place above es
    else downs place above es

-- replies, parked copies or an entry of these words
abbrev pub copy_here : List ℕ → List ℕ → List ℕ → CopyAt
copy_here place clock words = record { place = place; clock = clock; end = None; words = words }

abbrev pub copies_here : List ℕ → List ℕ → List (List ℕ) → List CopyAt
copies_here place clock ws = map (copy_here place clock) ws

-- the entry of a leaf, where it has words
abbrev pub entry_copies : List ℕ → List ℕ → Option LeafEntry → List CopyAt
entry_copies place clock None = []
entry_copies place clock (Some e) = if is_held (entry_hold (Some e.state)) then copy_here place clock e.words ∷ [] else []

-- what a directory with this path gathers: what its children hand to it, and its parked copies; `bound` is the moment, on the
-- bus above, of the last stamp that its own bus took over
abbrev pub gathering : ℕ → List ℕ → List ℕ → DirValue → List CopyAt → List CopyAt
gathering x path bound d handed_up = handed_up ++ copies_here path bound (words_of_item x d.parked)

abbrev mutual
  -- the copies of x inside a node without its own replies, with the ends that stand inside it
  pub inner : ℕ → Spot → Node → List CopyAt
  inner x c (leaf_node v) = entry_copies (spot_path c) (spot_moment c) (leaf_entry x v)
  inner x c (dir_node d ns) =
      map (cut (first_erase c.above (queue_of x d.down)))
      (gathering x (spot_path c) (moment_at c.above d.epoch) d
      (handed x (spot_path c) (moment_at c.above d.epoch) d 0 ns))
      ++ downs (spot_path c) c.above (queue_of x d.down)

  -- what the children of a directory with this path hand to it, from child i on: the copies inside them, and their replies as
  -- copies of the directory's place
  pub handed : ℕ → List ℕ → List ℕ → DirValue → ℕ → Nodes → List CopyAt
  handed x path bound d i no_nodes = []
  handed x path bound d i (more_nodes n ns) =
      (inner x (spot_in path d i) n ++ copies_here path bound (words_of_item x (child_replies n)))
      ++ handed x path bound d (i + 1) ns

-- all that stands below a directory, and its parked copies
abbrev pub gathered : ℕ → List ℕ → List ℕ → DirValue → Nodes → List CopyAt
gathered x path bound d ns = gathering x path bound d (handed x path bound d 0 ns)

-- the copies of x in a machine; no erase comes down to the top
unfoldable pub copies_of : ℕ → MachineValue → List CopyAt
copies_of x m = gathered x [] [] m.top m.kids

-- ---- erases

-- the moments of the erases of a queue, on the bus of this path
abbrev pub erases_of : List ℕ → List DownValue → List (List ℕ)
erases_of above [] = []
erases_of above (e ∷ es) = if is_kind EraseTx e.kind then moment_at above e.stamp ∷ erases_of above es else erases_of above es

abbrev mutual
  -- of the erases of x that stand inside a node
  pub erases_in : ℕ → Spot → Node → List (List ℕ)
  erases_in x c (leaf_node v) = []
  erases_in x c (dir_node d ns) = erases_of c.above (queue_of x d.down) ++ erases_among x (spot_path c) d 0 ns

  pub erases_among : ℕ → List ℕ → DirValue → ℕ → Nodes → List (List ℕ)
  erases_among x path d i no_nodes = []
  erases_among x path d i (more_nodes n ns) = erases_in x (spot_in path d i) n ++ erases_among x path d (i + 1) ns
