-- Parts of a tree, by the bus at the top of each.
-- Letters: m is a machine, n a part, c the number of a child, x an item.
-- To be believed with the contracts: they speak of them.
use Rattle.std.specs.Prelude.{◌≡◌, ℕ, ◌+◌, Bool, true, false, nat_eq, List, [], Option, None, Some, is_some}
use Rattle.std.specs.Prelude.{unwrap_or, slice_set, IfSome, if◌then◌else◌}
use Rattle.std.specs.List.{flat_map}
use Rattle.headline.specs.DdmTypes.declared.turns.Turn.{Turn}
use Rattle.headline.specs.TreeModel.State.Values.{LeafValue, Node, Nodes, leaf_node, dir_node, no_nodes, more_nodes}
use Rattle.headline.specs.TreeModel.State.Values.{nodes, children, MachineValue}
use Rattle.headline.specs.TreeModel.State.Blank.{no_node}
use Rattle.headline.specs.TreeModel.Turns.Children.{child_at}
use Rattle.headline.specs.TreeModel.Turns.Machine.{ask_bus, child_count}
use Rattle.serving_model.specs.Walk.{lose_turns, loses}

-- the directory over a bus, with all that is below it; where there is no bus it is a leaf that has nothing
unfoldable pub part_at : Option ℕ → MachineValue → Node
part_at None m = no_node
part_at (Some bus) m = unwrap_or (ask_bus bus (λ w d ns. dir_node d (nodes ns)) no_node m) no_node

abbrev pub kids_of : Node → Nodes
kids_of (leaf_node v) = no_nodes
kids_of (dir_node d ns) = ns

-- a child of a bus
abbrev pub under : ℕ → ℕ → MachineValue → Node
under bus c m = child_at c (children (kids_of (part_at (Some bus) m)))

-- the bus below a part
abbrev pub bus_of : Node → Option ℕ
bus_of (leaf_node v) = None
bus_of (dir_node d ns) = Some d.bus

-- where there is one, it is a bus of the tree
abbrev pub IsBus : Option ℕ → MachineValue → Type 0
IsBus bus m = IfSome bus (λ b. is_some (child_count b m) ≡ true)

-- how many buses a part has
abbrev mutual
  pub bus_count : Node → ℕ
  bus_count (leaf_node v) = 0
  bus_count (dir_node d ns) = bus_count_among ns + 1

  pub bus_count_among : Nodes → ℕ
  bus_count_among no_nodes = 0
  bus_count_among (more_nodes n ns) = bus_count n + bus_count_among ns

-- turns of a part of which a leaf has none
abbrev pub OfBuses : (Node → List Turn) → Type 0
OfBuses turns = (v : LeafValue) → turns (leaf_node v) ≡ []

-- the turns by which the children lose an item, but for one
abbrev pub each_but : Option ℕ → List (List Turn) → List (List Turn)
each_but None each = each
each_but (Some c) each = slice_set each c []

abbrev pub lost_by : Option ℕ → ℕ → Nodes → List Turn
lost_by but x ns = flat_map (λ turns. turns) (each_but but (loses x ns))

-- and those of one of them
abbrev pub is_but : Option ℕ → ℕ → Bool
is_but None c = false
is_but (Some other) c = nat_eq other c

abbrev pub lost_of : Option ℕ → ℕ → ℕ → Node → List Turn
lost_of but x c n = if is_but but c then [] else lose_turns x n
