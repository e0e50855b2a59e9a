-- The words of a checkpoint for a node, where it is known to be a leaf or a directory; for the leaf or the directory over the bus of a
-- number; and for a tree.
-- Letters: v is a leaf, d a directory over the nodes ns, m a machine.
-- To be believed with the contracts: it is what the calls that write give.
use Rattle.std.specs.Prelude.{ℕ, List, [], ◌++◌, length}
use Rattle.std.specs.List.{flat_map, range_with_len}
use Rattle.ddm_tree.specs.TreeModel.State.Values.{LeafValue, Node, leaf_node, dir_node, MachineValue}
use Rattle.ddm_tree.specs.TreeModel.Turns.Machine.{ask_leaf, ask_bus, machine_leaves}
use Rattle.ddm_tree.specs.StateWords.Parts.{dir_words, hart_words, leaf_words}
use Rattle.ddm_tree.specs.StateWords.Machine.{bus_words, words_or_none}

-- these words of a leaf
abbrev pub node_words : (LeafValue → List ℕ) → Node → List ℕ
node_words words (leaf_node v) = words v
node_words words (dir_node d ns) = []

abbrev pub node_dir_words : Node → List ℕ
node_dir_words (leaf_node v) = []
node_dir_words (dir_node d ns) = dir_words d

-- the same by number
abbrev pub words_of_leaf : (LeafValue → List ℕ) → ℕ → MachineValue → List ℕ
words_of_leaf words leaf m = words_or_none (ask_leaf leaf (λ w v. words v) [] m)

abbrev pub dir_words_of : ℕ → MachineValue → List ℕ
dir_words_of bus m = words_or_none (ask_bus bus (λ w d ns. dir_words d) [] m)

-- of the harts, the buses and the leaves, each in order of number
abbrev pub tree_words : MachineValue → List ℕ
tree_words m =
    flat_map hart_words (machine_leaves m) ++ flat_map (bus_words m) (range_with_len 0 (length m.traffic))
    ++ flat_map leaf_words (machine_leaves m)
