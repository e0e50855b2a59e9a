-- The turns that are tried of a machine, in order. A quiet turn of a hart touches no item, and no other turn can make it come out
-- otherwise: where a hart has one, it alone is tried.
-- Letters: m is a machine, t a turn, v a leaf, d a directory over the children ns, b a bus.
-- To be believed: it is what a search goes through.
use Rattle.std.specs.Prelude.{ℕ, ◌+◌, Bool, true, false, not, nat_lt, List, [], ◌∷◌, ◌++◌, length, map, filter, flat_map, if◌then◌else◌}
use Rattle.std.specs.List.{range_with_len}
use Rattle.search_model.specs.DdmTypes.declared.answers.TurnAnswer.{TurnAnswer}
use Rattle.search_model.specs.DdmTypes.declared.operations.Effect.{Effect}
use Rattle.search_model.specs.DdmTypes.declared.turns.Turn.{Turn}
use Rattle.tree_model.specs.State.Leaf.{may_leave_buffer}
use Rattle.tree_model.specs.State.Values.{LeafValue, Node, Nodes, leaf_node, dir_node, no_nodes, more_nodes, children}
use Rattle.tree_model.specs.State.Values.{MachineValue, root_of}
use Rattle.tree_model.specs.Turns.Machine.{machine_leaves, turn_of}
use Rattle.recording_model.specs.Doing.{does_something, had_halted}

-- ---- all turns that do something

-- a hart's, by victim; another victim does what one of these does
abbrev pub turns_of_leaf : LeafValue → List Turn
turns_of_leaf v = map (λ victim. Turn.Hart v.number victim) (range_with_len 0 v.sizes.way_count)

-- a bus and its children
pub record BusParts : Type 0 where
  pub number : ℕ
  pub kids : List Node

abbrev mutual
  -- those of a part of the tree, before others
  pub buses_of : Node → List BusParts → List BusParts
  buses_of (leaf_node v) rest = rest
  buses_of (dir_node d ns) rest = record { number = d.bus; kids = children ns } ∷ buses_among ns rest

  pub buses_among : Nodes → List BusParts → List BusParts
  buses_among no_nodes rest = rest
  buses_among (more_nodes n ns) rest = buses_of n (buses_among ns rest)

-- a bus among others in the order of their numbers
abbrev pub bus_placed : BusParts → List BusParts → List BusParts
bus_placed b [] = b ∷ []
bus_placed b (c ∷ cs) = if nat_lt c.number b.number then c ∷ bus_placed b cs else b ∷ c ∷ cs

abbrev pub in_order : List BusParts → List BusParts
in_order [] = []
in_order (b ∷ bs) = bus_placed b (in_order bs)

-- how many copies of a child may leave
abbrev pub leaving_count : Node → ℕ
leaving_count (leaf_node v) = length (filter may_leave_buffer v.buffer)
leaving_count (dir_node d ns) = length d.parked

-- of the children from number c on, by choice; another choice does what one of these does
abbrev pub leave_turns : ℕ → ℕ → List Node → List Turn
leave_turns bus c [] = []
leave_turns bus c (n ∷ ns) = map (λ choice. Turn.Leave bus c choice) (range_with_len 0 (leaving_count n)) ++ leave_turns bus (c + 1) ns

abbrev pub turns_of_bus : BusParts → List Turn
turns_of_bus b =
    let numbers = range_with_len 0 (length b.kids) in
    Turn.Down b.number ∷ map (Turn.Request b.number) numbers ++ map (Turn.Reply b.number) numbers ++ leave_turns b.number 0 b.kids

abbrev pub turns_of_tree : MachineValue → List Turn
turns_of_tree m = flat_map turns_of_leaf (machine_leaves m) ++ flat_map turns_of_bus (in_order (buses_of (root_of m) []))

unfoldable pub doing_turns : MachineValue → List Turn
doing_turns m = filter (λ t. does_something t m) (turns_of_tree m)

-- ---- quiet turns

abbrev pub is_quiet_effect : Effect → Bool
is_quiet_effect Effect.Plain = true
is_quiet_effect (Effect.Put byte) = true
is_quiet_effect (Effect.Load address word) = false
is_quiet_effect (Effect.Store address before after) = false
is_quiet_effect (Effect.Lr address word) = false
is_quiet_effect (Effect.ScOk address before after) = false
is_quiet_effect (Effect.ScFail address) = true
is_quiet_effect (Effect.Amo address before after) = false

-- an answer of a hart that had halted before or not
abbrev pub is_quiet_answer : TurnAnswer → Bool → Bool
is_quiet_answer (TurnAnswer.Retired op) halted = is_quiet_effect op.effect
is_quiet_answer (TurnAnswer.Issued kind x) halted = false
is_quiet_answer (TurnAnswer.Waiting x) halted = false
is_quiet_answer (TurnAnswer.Halted cause) halted = not halted
is_quiet_answer (TurnAnswer.Granted entry) halted = false
is_quiet_answer TurnAnswer.Empty halted = false
is_quiet_answer (TurnAnswer.Busy cause) halted = false

unfoldable pub is_quiet : MachineValue → Turn → Bool
is_quiet m t = is_quiet_answer (turn_of t m).answer (had_halted t m)

-- those of the harts in their order, the leaves from left to right
unfoldable pub quiet_turns : MachineValue → List Turn
quiet_turns m = filter (is_quiet m) (map (λ (v : LeafValue). Turn.Hart v.number 0) (machine_leaves m))

-- ---- what is tried

abbrev pub first_or : List Turn → List Turn → List Turn
first_or [] others = others
first_or (t ∷ ts) others = t ∷ []

unfoldable pub tried_turns : MachineValue → List Turn
tried_turns m = first_or (quiet_turns m) (doing_turns m)
