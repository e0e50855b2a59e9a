-- The reading of a whole state, from the words behind the head to the end word, into a machine before its first turn.
-- Letters: m is a machine, n how many items there are, k the number of the next word, ws are the words from it on.
-- To be believed: it is how a checkpoint is judged.
use Rattle.std.specs.Prelude.{ℕ, ◌+◌, nat_eq, List, [], ◌∷◌, ◌++◌, length, map, Option, Some, None, Result, slice_index_or}
use Rattle.std.specs.List.{range_with_len}
use Rattle.state_reading.specs.DdmTypes.declared.operations.Op.{Op}
use Rattle.state_reading.specs.DdmTypes.ItemTable.{item_count}
use Rattle.state_reading.specs.TreeModel.declared.Traffic.{Traffic}
use Rattle.state_reading.specs.TreeModel.State.Values.{LeafValue, DirValue, Node, Nodes, leaf_node, dir_node}
use Rattle.state_reading.specs.TreeModel.State.Values.{no_nodes, more_nodes, children, MachineValue, root_of}
use Rattle.state_reading.specs.TreeModel.State.Shape.{tree_counts, depth_of}
use Rattle.state_reading.specs.TreeModel.Turns.Machine.{ask_bus, machine_leaves, with_root}
use Rattle.state_reading.specs.declared.StateRefusal.{StateRefusal}
use Rattle.state_reading.specs.Reading.{Read, and_then, given, times, word_that}
use Rattle.state_reading.specs.Parts.{read_hart, read_leaf, read_dir, read_traffic, read_op}

module _ {A B : Type 0} where
  -- one of each, in their order
  unfoldable pub read_each : (A → ℕ → List ℕ → Result (Read B) StateRefusal) → List A → ℕ → List ℕ → Result (Read (List B)) StateRefusal
  read_each read [] k ws = given [] k ws
  read_each read (a ∷ rest) k ws =
      and_then (read a k ws) (λ b k ws. and_then (read_each read rest k ws) (λ more k ws. given (b ∷ more) k ws))

-- a bus: the directory over it, how many children it has, and its traffic
pub record BusRead : Type 0 where
  pub dir : DirValue
  pub traffic : Traffic

abbrev pub read_bus_of : ℕ → Option (DirValue × ℕ) → ℕ → List ℕ → Result (Read (List BusRead)) StateRefusal
read_bus_of n None k ws = given [] k ws
read_bus_of n (Some b) k ws =
    and_then (read_dir n b.1 b.0 k ws)
    (λ d k ws. and_then (read_traffic k ws) (λ t k ws. given (record { dir = d; traffic = t } ∷ []) k ws))

abbrev pub read_bus : ℕ → MachineValue → List BusRead → ℕ → ℕ → List ℕ → Result (Read (List BusRead)) StateRefusal
read_bus n m before bus k ws =
    and_then (read_bus_of n (ask_bus bus (λ w d ns. (d, length ns)) (m.top, 0) m) k ws)
    (λ b k ws. given (before ++ b) k ws)

abbrev pub read_buses : ℕ → MachineValue → List ℕ → List BusRead → ℕ → List ℕ → Result (Read (List BusRead)) StateRefusal
read_buses n m [] before k ws = given before k ws
read_buses n m (bus ∷ buses) before k ws = and_then (read_bus n m before bus k ws) (read_buses n m buses)

-- ---- the tree with other leaves and directories, each at its number

abbrev mutual
  pub refilled : List LeafValue → List DirValue → Node → Node
  refilled leaves dirs (leaf_node v) = leaf_node (slice_index_or leaves v.number v)
  refilled leaves dirs (dir_node d ns) = dir_node (slice_index_or dirs d.bus d) (refilled_among leaves dirs ns)

  pub refilled_among : List LeafValue → List DirValue → Nodes → Nodes
  refilled_among leaves dirs no_nodes = no_nodes
  refilled_among leaves dirs (more_nodes n ns) = more_nodes (refilled leaves dirs n) (refilled_among leaves dirs ns)

abbrev pub bus_dir : BusRead → DirValue
bus_dir b = b.dir

abbrev pub bus_traffic : BusRead → Traffic
bus_traffic b = b.traffic

abbrev pub refilled_machine : MachineValue → List LeafValue → List BusRead → List Op → MachineValue
refilled_machine m leaves buses ops =
    record (with_root (refilled leaves (map bus_dir buses) (root_of m)) m)
    { ops = ops; traffic = map bus_traffic buses }

-- the words of a state, in which so many instructions were completed
unfoldable pub read_words : MachineValue → ℕ → ℕ → List ℕ → Result (Read MachineValue) StateRefusal
read_words m retired k ws =
    let n = item_count m.items in
    and_then (read_each read_hart (machine_leaves m) k ws) (λ harts k ws.
    and_then (read_buses n m (range_with_len 0 (length m.traffic)) [] k ws) (λ buses k ws.
    and_then (read_each (read_leaf n) harts k ws) (λ leaves k ws.
    and_then (word_that (λ w. nat_eq w retired) k ws) (λ count k ws.
    and_then (times (read_op (depth_of m) (tree_counts m).leaves) count [] k ws) (λ ops k ws.
    and_then (word_that (λ w. nat_eq w 0x454d4444) k ws) (λ end k ws.
    given (refilled_machine m leaves buses ops) k ws))))))
