-- What is seen of the lists near a turn: the greatest lengths so far, and those of these lists now.
-- Letters: m is a machine, b the number of a bus, k that of a leaf, c a child, l and n are lengths, ls greatest lengths by number.
use Rattle.std.specs.Prelude.{ℕ, max, List, [], ◌∷◌, map, slice_index_or, slice_set, unwrap_or}
use Rattle.ddm_types.specs.declared.turns.Turn.{Turn}
use Rattle.recording_model.specs.TreeModel.State.Child.{child_label}
use Rattle.recording_model.specs.TreeModel.State.Lengths.{no_dir_lengths, no_leaf_lengths}
use Rattle.recording_model.specs.TreeModel.State.Values.{MachineValue}
use Rattle.recording_model.specs.TreeModel.Turns.Machine.{ask_bus}
use Rattle.tree_model.specs.declared.DirLengths.{DirLengths}
use Rattle.tree_model.specs.declared.LeafLengths.{LeafLengths}
use Rattle.tree_model.specs.declared.TreeChild.{TreeChild}
use Rattle.measure_model.specs.Lengths.{lengths_in, lengths_over}

-- each is the greater of both
abbrev pub raised : DirLengths → DirLengths → DirLengths
raised l n = record {
  down = max l.down n.down;
  requests = max l.requests n.requests;
  replies = max l.replies n.replies;
  parking = max l.parking n.parking;
}

abbrev pub leaf_raised : LeafLengths → LeafLengths → LeafLengths
leaf_raised l n = record { replies = max l.replies n.replies; buffer = max l.buffer n.buffer }

-- the lists over a bus, and those of a leaf
abbrev pub seen_over : MachineValue → ℕ → List DirLengths → List DirLengths
seen_over m b ls = slice_set ls b (raised (slice_index_or ls b no_dir_lengths) (lengths_over b m))

abbrev pub seen_in : MachineValue → ℕ → List LeafLengths → List LeafLengths
seen_in m k ls = slice_set ls k (leaf_raised (slice_index_or ls k no_leaf_lengths) (lengths_in k m))

-- those of children
abbrev pub child_over : MachineValue → TreeChild → List DirLengths → List DirLengths
child_over m (TreeChild.LeafChild k) ls = ls
child_over m (TreeChild.BusChild b) ls = seen_over m b ls

abbrev pub child_in : MachineValue → TreeChild → List LeafLengths → List LeafLengths
child_in m (TreeChild.LeafChild k) ls = seen_in m k ls
child_in m (TreeChild.BusChild b) ls = ls

abbrev pub all_over : MachineValue → List TreeChild → List DirLengths → List DirLengths
all_over m [] ls = ls
all_over m (c ∷ cs) ls = all_over m cs (child_over m c ls)

abbrev pub all_in : MachineValue → List TreeChild → List LeafLengths → List LeafLengths
all_in m [] ls = ls
all_in m (c ∷ cs) ls = all_in m cs (child_in m c ls)

-- the children of a bus
abbrev pub labels_of : ℕ → MachineValue → List TreeChild
labels_of b m = unwrap_or (ask_bus b (λ w d ns. map child_label ns) [] m) []

-- those that a turn may have changed
abbrev pub turn_over : MachineValue → Turn → List DirLengths → List DirLengths
turn_over m (Turn.Hart hart victim) ls = ls
turn_over m (Turn.Down bus) ls = all_over m (labels_of bus m) (seen_over m bus ls)
turn_over m (Turn.Request bus child) ls = all_over m (labels_of bus m) (seen_over m bus ls)
turn_over m (Turn.Reply bus child) ls = all_over m (labels_of bus m) (seen_over m bus ls)
turn_over m (Turn.Leave bus child choice) ls = all_over m (labels_of bus m) (seen_over m bus ls)

abbrev pub turn_in : MachineValue → Turn → List LeafLengths → List LeafLengths
turn_in m (Turn.Hart hart victim) ls = seen_in m hart ls
turn_in m (Turn.Down bus) ls = all_in m (labels_of bus m) ls
turn_in m (Turn.Request bus child) ls = all_in m (labels_of bus m) ls
turn_in m (Turn.Reply bus child) ls = all_in m (labels_of bus m) ls
turn_in m (Turn.Leave bus child choice) ls = all_in m (labels_of bus m) ls
