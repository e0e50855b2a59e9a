-- The words and the bytes of a checkpoint of a whole machine.
-- Letters: m is a machine, v a leaf.
-- To be believed: it is the written format.
use Rattle.std.specs.Prelude.{ℕ, ◌/◌, List, [], ◌∷◌, ◌++◌, length, Option, Some, None, slice_index_or}
use Rattle.std.specs.List.{flat_map, range_with_len}
use Rattle.std.specs.Int.{w32, to_le_bytes}
use Rattle.state_words.specs.DdmTypes.ItemTable.{item_count}
use Rattle.state_words.specs.TreeModel.State.Values.{Node, Nodes, leaf_node, dir_node, no_nodes, more_nodes, MachineValue, root_of}
use Rattle.state_words.specs.TreeModel.State.Shape.{tree_counts}
use Rattle.state_words.specs.TreeModel.Turns.Machine.{no_traffic, ask_bus, machine_leaves}
use Rattle.state_words.specs.declared.MachineSizes.{MachineSizes}
use Rattle.state_words.specs.Parts.{counted, hart_words, leaf_words, dir_words, traffic_words, op_words}

abbrev pub words_or_none : Option (List ℕ) → List ℕ
words_or_none None = []
words_or_none (Some words) = words

-- a bus: the directory over it, and its traffic
unfoldable pub bus_words : MachineValue → ℕ → List ℕ
bus_words m bus = words_or_none (ask_bus bus (λ w d ns. dir_words d) [] m) ++ traffic_words (slice_index_or m.traffic bus no_traffic)

-- the harts, the buses and the leaves, each in order of number, the operations in order of completion, and the end word
unfoldable pub state_words : MachineValue → List ℕ
state_words m =
    flat_map hart_words (machine_leaves m) ++ flat_map (bus_words m) (range_with_len 0 (length m.traffic))
    ++ flat_map leaf_words (machine_leaves m) ++ counted op_words m.ops ++ 0x454d4444 ∷ []

-- ---- what the machine is

abbrev mutual
  -- how many ways the sets of a part's leaves have, by its first leaf
  pub way_count_of : Node → ℕ
  way_count_of (leaf_node v) = v.sizes.way_count
  way_count_of (dir_node d ns) = first_way_count ns

  pub first_way_count : Nodes → ℕ
  first_way_count no_nodes = 0
  first_way_count (more_nodes n ns) = way_count_of n

abbrev pub sizes_of : MachineValue → MachineSizes
sizes_of m = record {
  leaves = (tree_counts m).leaves;
  buses = (tree_counts m).buses;
  items = item_count m.items;
  item_words = m.items.size / 4;
  ways = way_count_of (root_of m);
}

-- ---- the whole

-- The name of the format and its version, what the machine is, and the run so far: how many turns there were, and how many of them
-- completed an instruction, were granted and were busy.
unfoldable pub head_words : MachineSizes → ℕ → ℕ → ℕ → ℕ → List ℕ
head_words s turns retired granted busy =
    0x434d4444 ∷ 1 ∷ s.leaves ∷ s.buses ∷ s.items ∷ s.item_words ∷ s.ways ∷ turns ∷ retired ∷ granted ∷ busy ∷ []

unfoldable pub checkpoint_words : MachineValue → ℕ → ℕ → ℕ → ℕ → List ℕ
checkpoint_words m turns retired granted busy = head_words (sizes_of m) turns retired granted busy ++ state_words m

-- each word as four bytes, the least first
unfoldable pub checkpoint_bytes : MachineValue → ℕ → ℕ → ℕ → ℕ → List ℕ
checkpoint_bytes m turns retired granted busy = flat_map (to_le_bytes w32) (checkpoint_words m turns retired granted busy)
