-- What is read of a leaf, or of a directory and its children, where a node is known to be one.
-- Letters: n is a node, v a leaf, d a directory over the nodes ns, x an item, c a child.
-- To be believed with the contracts: it is what the calls that read give.
use Rattle.std.specs.Prelude.{ℕ, Bool, true, false, not, ◌&&◌, List, [], filter, length, map, Option, Some, None}
use Rattle.std.specs.Prelude.{is_none, option_map, slice_get}
use Rattle.ddm_tree.specs.DdmTypes.declared.keys.Stamp.{Stamp}
use Rattle.ddm_tree.specs.DdmTypes.declared.sizes.Hold.{Hold}
use Rattle.ddm_tree.specs.DdmTypes.declared.sizes.LeafState.{LeafState}
use Rattle.ddm_tree.specs.DdmTypes.declared.turns.Turn.{Turn}
use Rattle.ddm_tree.specs.RvHart.HartState.{HartState}
use Rattle.ddm_tree.specs.TreeModel.declared.BusTurn.{BusTurn}
use Rattle.ddm_tree.specs.TreeModel.declared.CopyPlace.{CopyPlace}
use Rattle.ddm_tree.specs.TreeModel.declared.DirLengths.{DirLengths}
use Rattle.ddm_tree.specs.TreeModel.declared.LeafLengths.{LeafLengths}
use Rattle.ddm_tree.specs.TreeModel.declared.LeafSpot.{LeafSpot}
use Rattle.ddm_tree.specs.TreeModel.declared.TreeChild.{TreeChild}
use Rattle.ddm_tree.specs.TreeModel.State.Lengths.{dir_lengths, leaf_lengths, no_dir_lengths, no_leaf_lengths}
use Rattle.ddm_tree.specs.TreeModel.State.Lists.{first_some}
use Rattle.ddm_tree.specs.TreeModel.State.States.{is_held}
use Rattle.ddm_tree.specs.TreeModel.State.Values.{DownValue, DirValue, Node, leaf_node, dir_node, nodes, children, MachineValue}
use Rattle.ddm_tree.specs.TreeModel.State.Blank.{no_hart}
use Rattle.ddm_tree.specs.TreeModel.State.Leaf.{LeafEntry, leaf_entry, may_leave_buffer, spot_at, state_at}
use Rattle.ddm_tree.specs.TreeModel.State.Directory.{dir_hold, parked_words, parked_place, pending, queue_of}
use Rattle.ddm_tree.specs.TreeModel.State.Child.{child_label, child_hold}
use Rattle.ddm_tree.specs.TreeModel.Turns.Bus.{bus_step}
use Rattle.ddm_tree.specs.TreeModel.Turns.Children.{child_at}
use Rattle.ddm_tree.specs.TreeModel.Turns.Found.{down_place, queue_words}
use Rattle.ddm_tree.specs.TreeModel.Turns.Machine.{ask_leaf, ask_bus, leaves_of, leaves_among}
use Rattle.split_bus.specs.Outcomes.{is_granted}

-- a leaf's hart, with how many instructions it has completed
abbrev pub node_hart : Node → HartState
node_hart (leaf_node v) = record { hart = v.hart; done = v.done }
node_hart (dir_node d ns) = record { hart = no_hart; done = 0 }

-- an entry, and where it stands
abbrev pub entry_triple : Option LeafEntry → Option LeafSpot → Option (LeafState × List ℕ × LeafSpot)
entry_triple (Some e) (Some spot) = Some (e.state, e.words, spot)
entry_triple (Some e) None = None
entry_triple None spot = None

abbrev pub node_entry : ℕ → Node → Option (LeafState × List ℕ × LeafSpot)
node_entry x (leaf_node v) = entry_triple (leaf_entry x v) (spot_at x v.ways v.buffer)
node_entry x (dir_node d ns) = None

-- the state of a leaf's entry of an item
abbrev pub node_state : ℕ → Node → Option LeafState
node_state x (leaf_node v) = state_at x v
node_state x (dir_node d ns) = None

-- how many leaves a part of the tree has, and the states of an item's entries at them, from left to right
abbrev pub leaf_count : Node → ℕ
leaf_count n = length (leaves_of n [])

abbrev pub node_states : ℕ → Node → List (Option LeafState)
node_states x n = map (state_at x) (leaves_of n [])

-- the same of some nodes, one behind the other
abbrev pub leaf_count_among : List Node → ℕ
leaf_count_among ns = length (leaves_among (nodes ns) [])

abbrev pub states_among : ℕ → List Node → List (Option LeafState)
states_among x ns = map (state_at x) (leaves_among (nodes ns) [])

-- a directory doesn't hold the item, and nothing of it is pending on the bus below
abbrev pub is_without : ℕ → DirValue → Bool
is_without x d = not (is_held (dir_hold x d)) && is_none (pending x d)

-- how many children there are, and one of them
abbrev pub node_children : Node → ℕ
node_children (leaf_node v) = 0
node_children (dir_node d ns) = length (children ns)

abbrev pub node_child : ℕ → Node → TreeChild
node_child c (leaf_node v) = TreeChild.BusChild 0
node_child c (dir_node d ns) = child_label (child_at c (children ns))

abbrev pub node_child_hold : ℕ → ℕ → Node → Hold
node_child_hold c x (leaf_node v) = Hold.Invalid
node_child_hold c x (dir_node d ns) = child_hold x (child_at c (children ns))

-- how many copies of a part of the tree may leave
abbrev pub leaving_count : Node → ℕ
leaving_count (leaf_node v) = length (filter may_leave_buffer v.buffer)
leaving_count (dir_node d ns) = length d.parked

-- and of a child of a bus
abbrev pub leaving_count_of : ℕ → ℕ → MachineValue → Option ℕ
leaving_count_of bus child m = ask_bus bus (λ w d ns. leaving_count (child_at child ns)) 0 m

-- and of a child of this node
abbrev pub node_leaving_count : ℕ → Node → ℕ
node_leaving_count c (leaf_node v) = 0
node_leaving_count c (dir_node d ns) = leaving_count (child_at c (children ns))

-- an entry of the down list
abbrev pub node_down : ℕ → Node → Option DownValue
node_down place (leaf_node v) = None
node_down place (dir_node d ns) = slice_get d.down place

-- how many entries there are
abbrev pub node_down_len : Node → ℕ
node_down_len (leaf_node v) = 0
node_down_len (dir_node d ns) = length d.down

-- how long the lists of a directory are, and those of a leaf
abbrev pub node_lengths : Node → DirLengths
node_lengths (leaf_node v) = no_dir_lengths
node_lengths (dir_node d ns) = dir_lengths d

abbrev pub node_leaf_lengths : Node → LeafLengths
node_leaf_lengths (leaf_node v) = leaf_lengths v
node_leaf_lengths (dir_node d ns) = no_leaf_lengths

-- a parked copy with its place
abbrev pub copy_pair : Option ℕ → Option (List ℕ) → Option (ℕ × List ℕ)
copy_pair (Some place) (Some words) = Some (place, words)
copy_pair (Some place) None = None
copy_pair None words = None

abbrev pub node_parked : ℕ → Node → Option (ℕ × List ℕ)
node_parked x (leaf_node v) = None
node_parked x (dir_node d ns) = copy_pair (parked_place x d) (parked_words x d)

-- a directory's own copy: the last one in its down list, else the parked one
abbrev pub own_place : ℕ → DirValue → Option CopyPlace
own_place x d =
    first_some (option_map (λ k. CopyPlace.DownList d.bus k) (down_place x 0 d.down))
    (option_map (λ k. CopyPlace.Parking d.bus k) (parked_place x d))

abbrev pub own_words : ℕ → DirValue → Option (List ℕ)
own_words x d = first_some (queue_words (queue_of x d.down)) (parked_words x d)

-- a turn of the bus below a directory would be granted, where the bus above has this present stamp
abbrev pub node_grants : Stamp → BusTurn → Node → Bool
node_grants above t (leaf_node v) = false
node_grants above t (dir_node d ns) = is_granted (bus_step above t d (children ns)).answer

-- it is a Down, Request or Reply turn
abbrev pub is_down_request_or_reply : Turn → Bool
is_down_request_or_reply (Turn.Down bus) = true
is_down_request_or_reply (Turn.Request bus child) = true
is_down_request_or_reply (Turn.Reply bus child) = true
is_down_request_or_reply (Turn.Hart hart victim) = false
is_down_request_or_reply (Turn.Leave bus child choice) = false

-- ---- what is read of a machine

-- a leaf's hart, with how many instructions it has completed
abbrev pub counted_hart_of : ℕ → MachineValue → Option HartState
counted_hart_of leaf m = ask_leaf leaf (λ w v. record { hart = v.hart; done = v.done }) (record { hart = no_hart; done = 0 }) m

-- a leaf's entry of an item, with its words, and where it stands
abbrev pub entry_at : ℕ → ℕ → MachineValue → Option (Option (LeafState × List ℕ × LeafSpot))
entry_at leaf x m = ask_leaf leaf (λ w v. entry_triple (leaf_entry x v) (spot_at x v.ways v.buffer)) None m

-- the state of that entry
abbrev pub state_of : ℕ → ℕ → MachineValue → Option (Option LeafState)
state_of leaf x m = ask_leaf leaf (λ w v. state_at x v) None m

-- the copy of an item that is parked at a bus: its place and its words
abbrev pub parked_at : ℕ → ℕ → MachineValue → Option (Option (ℕ × List ℕ))
parked_at bus x m = ask_bus bus (λ w d ns. copy_pair (parked_place x d) (parked_words x d)) None m

-- how many entries the down list over a bus has
abbrev pub down_len_of : ℕ → MachineValue → Option ℕ
down_len_of bus m = ask_bus bus (λ w d ns. length d.down) 0 m
