-- The lists that a turn may change: those of the leaf or bus that it names, and those of the children of that bus.
-- Letters: c is the name of a leaf or a bus, n a node, v a leaf, d a directory over the nodes ns, t a turn, m a machine.
-- To be believed with the laws: it is what they speak of.
use Rattle.std.specs.Prelude.{Bool, false, ◌||◌, unwrap_or}
use Rattle.std.specs.List.{list_any}
use Rattle.recording_model.specs.DdmTypes.declared.turns.Turn.{Turn}
use Rattle.recording_model.specs.TreeModel.State.Place.{at_top}
use Rattle.recording_model.specs.TreeModel.State.Values.{MachineValue, Node, children, dir_node, leaf_node, root_of}
use Rattle.recording_model.specs.TreeModel.Turns.Machine.{named_by}
use Rattle.recording_model.specs.TreeModel.Turns.Tree.{Name, is_named, read_in}

-- a node has this name, or one of its children has
abbrev pub names_near : Name → Node → Bool
names_near c (leaf_node v) = is_named c (leaf_node v)
names_near c (dir_node d ns) = is_named c (dir_node d ns) || list_any (is_named c) (children ns)

-- so is it of the node that a turn names
abbrev pub is_near : Name → Turn → MachineValue → Bool
is_near c t m = unwrap_or (read_in (named_by t) (λ w n. names_near c n) at_top (root_of m)) false
