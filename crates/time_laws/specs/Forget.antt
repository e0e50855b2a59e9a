-- A machine without its time and its operations: what is left decides what every later turn does.
-- Letters: v is a leaf, d a directory over the children ns, e an entry of its down list, m and n are machines.
-- To be believed with the laws: it is what they speak of.
use Rattle.std.specs.Prelude.{◌≡◌, ℕ, nat_eq, List, [], ◌∷◌, map, flat_map, if◌then◌else◌}
use Rattle.time_laws.specs.DdmTypes.declared.answers.TurnAnswer.{TurnAnswer}
use Rattle.time_laws.specs.DdmTypes.declared.operations.Effect.{Effect}
use Rattle.time_laws.specs.DdmTypes.declared.operations.Op.{Op}
use Rattle.time_laws.specs.DdmTypes.Keys.{stamp_zero, key_zero}
use Rattle.tree_model.specs.declared.Traffic.{Traffic}
use Rattle.tree_model.specs.State.Values.{DownValue, LeafValue, DirValue, Node, Nodes, leaf_node, dir_node, no_nodes}
use Rattle.tree_model.specs.State.Values.{more_nodes, MachineValue}
use Rattle.tree_model.specs.Turns.Machine.{no_traffic, machine_leaves}

-- ---- a machine

abbrev pub forget_entry : DownValue → DownValue
forget_entry e = record e { stamp = stamp_zero }

-- a leaf has no time but how many instructions its hart has completed
abbrev pub forget_leaf : LeafValue → LeafValue
forget_leaf v = record v { done = 0 }

-- the bus below has granted nothing, and no entry says when it came
abbrev pub forget_dir : DirValue → DirValue
forget_dir d = record d { down = map forget_entry d.down; count = 0; epoch = stamp_zero }

abbrev mutual
  pub forget_node : Node → Node
  forget_node (leaf_node v) = leaf_node (forget_leaf v)
  forget_node (dir_node d ns) = dir_node (forget_dir d) (forget_nodes ns)

  pub forget_nodes : Nodes → Nodes
  forget_nodes no_nodes = no_nodes
  forget_nodes (more_nodes n ns) = more_nodes (forget_node n) (forget_nodes ns)

-- for each bus, that nothing was granted
abbrev pub forget_traffic : List Traffic → List Traffic
forget_traffic traffic = map (λ t. no_traffic) traffic

abbrev pub forget : MachineValue → MachineValue
forget m = record m { top = forget_dir m.top; kids = forget_nodes m.kids; ops = []; traffic = forget_traffic m.traffic }

-- ---- an answer

-- of an answer only the key of an operation has to do with time
abbrev pub forget_answer : TurnAnswer → TurnAnswer
forget_answer (TurnAnswer.Retired op) = TurnAnswer.Retired (record op { key = key_zero })
forget_answer (TurnAnswer.Issued kind x) = TurnAnswer.Issued kind x
forget_answer (TurnAnswer.Waiting x) = TurnAnswer.Waiting x
forget_answer (TurnAnswer.Halted cause) = TurnAnswer.Halted cause
forget_answer (TurnAnswer.Granted entry) = TurnAnswer.Granted entry
forget_answer TurnAnswer.Empty = TurnAnswer.Empty
forget_answer (TurnAnswer.Busy cause) = TurnAnswer.Busy cause

-- ---- the bytes that harts have put out

abbrev pub put_by_effect : Effect → List ℕ
put_by_effect Effect.Plain = []
put_by_effect (Effect.Put byte) = byte ∷ []
put_by_effect (Effect.Load address word) = []
put_by_effect (Effect.Store address before after) = []
put_by_effect (Effect.Lr address word) = []
put_by_effect (Effect.ScOk address before after) = []
put_by_effect (Effect.ScFail address) = []
put_by_effect (Effect.Amo address before after) = []

abbrev pub put_by : ℕ → Op → List ℕ
put_by hart op = if nat_eq op.hart hart then put_by_effect op.effect else []

-- those of one hart, in the order in which it put them
unfoldable pub put_bytes : ℕ → MachineValue → List ℕ
put_bytes hart m = flat_map (put_by hart) m.ops

-- those of each hart, the leaves from left to right
abbrev pub puts_of : MachineValue → List (List ℕ)
puts_of m = map (λ v. put_bytes v.number m) (machine_leaves m)

-- what an answer adds to those of a hart
abbrev pub put_in : ℕ → TurnAnswer → List ℕ
put_in hart (TurnAnswer.Retired op) = put_by hart op
put_in hart (TurnAnswer.Issued kind x) = []
put_in hart (TurnAnswer.Waiting x) = []
put_in hart (TurnAnswer.Halted cause) = []
put_in hart (TurnAnswer.Granted entry) = []
put_in hart TurnAnswer.Empty = []
put_in hart (TurnAnswer.Busy cause) = []

-- ---- alike

-- they differ in time alone, and their harts have put out the same
pub record Alike (m n : MachineValue) : Type 0 where
  pub state : forget m ≡ forget n
  pub puts : puts_of m ≡ puts_of n
