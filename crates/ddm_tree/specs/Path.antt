-- A path from a node down to another one, as a list of child numbers: the node at its end, where that stands, and the tree in
-- which another one stands there.
-- Letters: n is a node, w where it stands, v a leaf, d a directory over the nodes ns.
-- To be believed with the contracts: it is how they say which node a call is about.
use Rattle.std.specs.Prelude.{ℕ, ◌+◌, Bool, false, nat_eq, List, [], ◌∷◌, Option, Some, None, option_map, slice_set, if◌then◌else◌}
use Rattle.ddm_tree.specs.DdmTypes.declared.answers.TurnAnswer.{TurnAnswer}
use Rattle.ddm_tree.specs.DdmTypes.declared.keys.Stamp.{Stamp}
use Rattle.ddm_tree.specs.DdmTypes.declared.turns.Turn.{Turn}
use Rattle.ddm_tree.specs.DdmTypes.Keys.{key_on}
use Rattle.ddm_tree.specs.DdmTypes.ItemTable.{ItemTable}
use Rattle.ddm_tree.specs.DdmTypes.CodeMap.{CodeWord}
use Rattle.ddm_tree.specs.TreeModel.State.Lists.{first_some, some_if}
use Rattle.ddm_tree.specs.TreeModel.State.Values.{Node, leaf_node, dir_node, nodes, children}
use Rattle.ddm_tree.specs.TreeModel.State.Directory.{stamp_of}
use Rattle.ddm_tree.specs.TreeModel.State.Shape.{Skeleton, Skeletons, leaf_bone, dir_bone, no_bones, more_bones}
use Rattle.ddm_tree.specs.TreeModel.Turns.Bus.{bus_step}
use Rattle.ddm_tree.specs.TreeModel.Turns.Children.{child_at}
use Rattle.ddm_tree.specs.TreeModel.Turns.HartTurn.{leaf_step}
use Rattle.ddm_tree.specs.TreeModel.Turns.Machine.{bus_turn_of, victim_of, outcome_node}
use Rattle.ddm_tree.specs.TreeModel.Turns.Tree.{Name, leaf_of_number, bus_of_number}

-- ---- the path to a leaf or a bus

-- it is the name of the bus of this number
abbrev pub is_bus_named : Name → ℕ → Bool
is_bus_named (leaf_of_number number) bus = false
is_bus_named (bus_of_number number) bus = nat_eq bus number

abbrev pub is_bone : Name → Skeleton → Bool
is_bone (leaf_of_number number) (leaf_bone k sizes) = nat_eq k number
is_bone (leaf_of_number number) (dir_bone bus level sizes bones) = is_bus_named (leaf_of_number number) bus
is_bone (bus_of_number number) (leaf_bone k sizes) = false
is_bone (bus_of_number number) (dir_bone bus level sizes bones) = is_bus_named (bus_of_number number) bus

abbrev pub step_down : ℕ → List ℕ → List ℕ
step_down i path = i ∷ path

abbrev mutual
  pub path_to : Name → Skeleton → Option (List ℕ)
  path_to name (leaf_bone number sizes) = some_if (is_bone name (leaf_bone number sizes)) []
  path_to name (dir_bone bus level sizes bones) = if is_bone name (dir_bone bus level sizes bones) then Some [] else path_among name 0 bones

  -- among the children from number i on
  pub path_among : Name → ℕ → Skeletons → Option (List ℕ)
  path_among name i no_bones = None
  path_among name i (more_bones b bs) = first_some (option_map (step_down i) (path_to name b)) (path_among name (i + 1) bs)

-- ---- along a path

abbrev pub below : Node → List Node
below (leaf_node v) = []
below (dir_node d ns) = children ns

-- the present stamp of the bus above its children
abbrev pub present_below : Stamp → Node → Stamp
present_below present (leaf_node v) = present
present_below present (dir_node d ns) = stamp_of d

abbrev pub node_at : List ℕ → Node → Node
node_at [] n = n
node_at (i ∷ path) n = node_at path (child_at i (below n))

-- the present stamp of the bus above the node at the path's end
abbrev pub present_at : List ℕ → Stamp → Node → Stamp
present_at [] present n = present
present_at (i ∷ path) present n = present_at path (present_below present n) (child_at i (below n))

abbrev pub put_at : List ℕ → Node → Node → Node
put_at [] new n = new
put_at (i ∷ path) new (leaf_node v) = leaf_node v
put_at (i ∷ path) new (dir_node d ns) = dir_node d (nodes (slice_set (children ns) i (put_at path new (child_at i (children ns)))))

-- ---- a turn of a node with this path, where the bus above has this present stamp

module _ (code : List CodeWord) (items : ItemTable) (t : Turn) (path : List ℕ) (present : Stamp) where
  abbrev pub node_answer : Node → TurnAnswer
  node_answer (leaf_node v) = (leaf_step code items (key_on present path v.done) (victim_of t) v).answer
  node_answer (dir_node d ns) = (bus_step present (bus_turn_of t) d (children ns)).answer

  abbrev pub node_turned : Node → Node
  node_turned (leaf_node v) = leaf_node (leaf_step code items (key_on present path v.done) (victim_of t) v).leaf
  node_turned (dir_node d ns) = outcome_node code items t (bus_step present (bus_turn_of t) d (children ns))
