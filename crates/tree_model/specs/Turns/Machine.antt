-- The machine, one turn of it, and a run over a list of turns.
-- Letters: m is a machine, t a turn, n a node and w where it stands, v a leaf, d a directory over the children ns.
-- To be believed: it is what the machine is.
use Rattle.std.specs.Prelude.{ℕ, ◌+◌, Bool, false, nat_lt, List, [], ◌∷◌, ◌++◌, length, Option, Some, None, is_some}
use Rattle.std.specs.Prelude.{slice_get, slice_set, slice_index_or}
use Rattle.tree_model.specs.DdmTypes.declared.answers.TxKind.{TxKind}
use Rattle.tree_model.specs.DdmTypes.declared.answers.LogEntry.{LogEntry}
use Rattle.tree_model.specs.DdmTypes.declared.answers.TurnAnswer.{TurnAnswer}
use Rattle.tree_model.specs.DdmTypes.declared.turns.Turn.{Turn}
use Rattle.tree_model.specs.DdmTypes.declared.keys.Key.{Key}
use Rattle.tree_model.specs.DdmTypes.Keys.{key_zero}
use Rattle.tree_model.specs.DdmTypes.ItemTable.{ItemTable}
use Rattle.tree_model.specs.DdmTypes.CodeMap.{CodeWord}
use Rattle.tree_model.specs.DdmTypes.declared.sizes.Hold.{Hold}
use Rattle.flat_model.specs.Hart.{HartValue}
use Rattle.tree_model.specs.declared.BusTurn.{BusTurn}
use Rattle.tree_model.specs.declared.DirLengths.{DirLengths}
use Rattle.tree_model.specs.declared.LeafLengths.{LeafLengths}
use Rattle.tree_model.specs.declared.LeafSpot.{LeafSpot}
use Rattle.tree_model.specs.declared.TreeChild.{TreeChild}
use Rattle.tree_model.specs.declared.Traffic.{Traffic}
use Rattle.tree_model.specs.State.Values.{DownValue, LeafValue, DirValue, Node, Nodes, leaf_node, dir_node, no_nodes}
use Rattle.tree_model.specs.State.Values.{more_nodes, nodes, children, MachineValue, root_of}
use Rattle.tree_model.specs.State.Blank.{no_hart}
use Rattle.tree_model.specs.State.Leaf.{LeafEntry, leaf_entry, spot_at}
use Rattle.tree_model.specs.State.Directory.{parked_words, parked_place}
use Rattle.tree_model.specs.State.Child.{child_label, child_hold}
use Rattle.tree_model.specs.State.Lengths.{dir_lengths, leaf_lengths, no_dir_lengths, no_leaf_lengths}
use Rattle.tree_model.specs.State.Place.{Where, at_top, stamp_above, key_at_leaf}
use Rattle.tree_model.specs.Turns.Grant.{Outcome}
use Rattle.tree_model.specs.Turns.Children.{child_at}
use Rattle.tree_model.specs.Turns.Bus.{bus_step}
use Rattle.tree_model.specs.Turns.HartTurn.{leaf_step}
use Rattle.tree_model.specs.Turns.Tree.{Name, leaf_of_number, bus_of_number, read_in, changed_in, of_leaf, of_dir}

-- ---- traffic: for each bus and kind the number of grants

abbrev pub no_traffic : Traffic
no_traffic = record { reads = 0; copies = 0; erases = 0; exclusives = 0; outs = 0; injects = 0 }

abbrev pub one_more : TxKind → Traffic → Traffic
one_more TxKind.ReadTx t = record t { reads = t.reads + 1 }
one_more TxKind.DataTx t = record t { copies = t.copies + 1 }
one_more TxKind.EraseTx t = record t { erases = t.erases + 1 }
one_more TxKind.ExclusiveTx t = record t { exclusives = t.exclusives + 1 }
one_more TxKind.InjectTx t = record t { injects = t.injects + 1 }
one_more TxKind.OutTx t = record t { outs = t.outs + 1 }

abbrev pub granted_of : TxKind → Traffic → ℕ
granted_of TxKind.ReadTx t = t.reads
granted_of TxKind.DataTx t = t.copies
granted_of TxKind.EraseTx t = t.erases
granted_of TxKind.ExclusiveTx t = t.exclusives
granted_of TxKind.InjectTx t = t.injects
granted_of TxKind.OutTx t = t.outs

abbrev pub traffic_with : LogEntry → List Traffic → List Traffic
traffic_with e ts = slice_set ts e.bus (one_more e.kind (slice_index_or ts e.bus no_traffic))

-- ---- the node that a turn names, and what it does there

abbrev pub named_by : Turn → Name
named_by (Turn.Hart hart victim) = leaf_of_number hart
named_by (Turn.Down bus) = bus_of_number bus
named_by (Turn.Request bus child) = bus_of_number bus
named_by (Turn.Reply bus child) = bus_of_number bus
named_by (Turn.Leave bus child choice) = bus_of_number bus

-- a turn as its bus sees it; that of a hart is none, and Down stands for it
abbrev pub bus_turn_of : Turn → BusTurn
bus_turn_of (Turn.Hart hart victim) = BusTurn.Down
bus_turn_of (Turn.Down bus) = BusTurn.Down
bus_turn_of (Turn.Request bus child) = BusTurn.Request child
bus_turn_of (Turn.Reply bus child) = BusTurn.Reply child
bus_turn_of (Turn.Leave bus child choice) = BusTurn.Leave child choice

abbrev pub victim_of : Turn → ℕ
victim_of (Turn.Hart hart victim) = victim
victim_of (Turn.Down bus) = 0
victim_of (Turn.Request bus child) = 0
victim_of (Turn.Reply bus child) = 0
victim_of (Turn.Leave bus child choice) = 0

module _ (code : List CodeWord) (items : ItemTable) (t : Turn) where
  -- what the node answers
  abbrev pub answer_here : Where → Node → TurnAnswer
  answer_here w (leaf_node v) = (leaf_step code items (key_at_leaf w v.done) (victim_of t) v).answer
  answer_here w (dir_node d ns) = (bus_step (stamp_above w) (bus_turn_of t) d (children ns)).answer

  abbrev pub outcome_node : Outcome → Node
  outcome_node o = dir_node o.parent (nodes o.kids)

  -- what it becomes
  abbrev pub node_after : Where → Node → Node
  node_after w (leaf_node v) = leaf_node (leaf_step code items (key_at_leaf w v.done) (victim_of t) v).leaf
  node_after w (dir_node d ns) = outcome_node (bus_step (stamp_above w) (bus_turn_of t) d (children ns))

-- ---- a turn

abbrev pub turn_answer : Turn → MachineValue → Option TurnAnswer
turn_answer t m = read_in (named_by t) (answer_here m.code m.items t) at_top (root_of m)

abbrev pub turn_root : Turn → MachineValue → Node
turn_root t m = changed_in (named_by t) (node_after m.code m.items t) at_top (root_of m)

abbrev pub with_root : Node → MachineValue → MachineValue
with_root (leaf_node v) m = m
with_root (dir_node d ns) m = record m { top = d; kids = ns }

-- what the answer adds: an operation that completed, a transaction that was granted
abbrev pub recorded : TurnAnswer → MachineValue → MachineValue
recorded (TurnAnswer.Retired op) m = record m { ops = m.ops ++ op ∷ [] }
recorded (TurnAnswer.Issued kind x) m = m
recorded (TurnAnswer.Waiting x) m = m
recorded (TurnAnswer.Halted cause) m = m
recorded (TurnAnswer.Granted e) m = record m { traffic = traffic_with e m.traffic }
recorded TurnAnswer.Empty m = m
recorded (TurnAnswer.Busy cause) m = m

-- what a turn answers and leaves
pub record Turned : Type 0 where
  pub answer : TurnAnswer
  pub machine : MachineValue

-- a turn that names no leaf or bus of the tree changes nothing
abbrev pub turned_by : Option TurnAnswer → Node → MachineValue → Turned
turned_by (Some answer) root m = record { answer = answer; machine = recorded answer (with_root root m) }
turned_by None root m = record { answer = TurnAnswer.Empty; machine = m }

unfoldable pub turn_of : Turn → MachineValue → Turned
turn_of t m = turned_by (turn_answer t m) (turn_root t m) m

-- ---- a run

pub record Ran : Type 0 where
  pub answers : List TurnAnswer
  pub machine : MachineValue

-- the turns in order: all answers, and the machine afterwards
unfoldable pub run_of : List Turn → MachineValue → Ran
run_of [] m = record { answers = []; machine = m }
run_of (t ∷ ts) m =
    let now = turn_of t m in
    let rest = run_of ts now.machine in
    record { answers = now.answer ∷ rest.answers; machine = rest.machine }

-- ---- what can be asked of a machine

-- of the leaf of this number, and of the directory over the bus of this number; None where there is none
module _ {A : Type 0} where
  abbrev pub ask_leaf : ℕ → (Where → LeafValue → A) → A → MachineValue → Option A
  ask_leaf number read other m = read_in (leaf_of_number number) (of_leaf read other) at_top (root_of m)

  abbrev pub ask_bus : ℕ → (Where → DirValue → List Node → A) → A → MachineValue → Option A
  ask_bus number read other m = read_in (bus_of_number number) (of_dir read other) at_top (root_of m)

-- the key that an instruction completing now at this leaf would have
abbrev pub now_of : ℕ → MachineValue → Option Key
now_of leaf m = ask_leaf leaf (λ w v. key_at_leaf w v.done) key_zero m

-- how many children a bus has
abbrev pub child_count : ℕ → MachineValue → Option ℕ
child_count bus m = ask_bus bus (λ w d ns. length ns) 0 m

abbrev pub is_child_of : ℕ → Option ℕ → Bool
is_child_of child None = false
is_child_of child (Some count) = nat_lt child count

-- the turn names a leaf, or a bus and one of its children, of the machine's tree
abbrev pub names_part : Turn → MachineValue → Bool
names_part (Turn.Hart hart victim) m = is_some (now_of hart m)
names_part (Turn.Down bus) m = is_some (child_count bus m)
names_part (Turn.Request bus child) m = is_child_of child (child_count bus m)
names_part (Turn.Reply bus child) m = is_child_of child (child_count bus m)
names_part (Turn.Leave bus child choice) m = is_child_of child (child_count bus m)

-- the hart of a leaf; its entry of an item, and where that stands
abbrev pub hart_of : ℕ → MachineValue → Option HartValue
hart_of leaf m = ask_leaf leaf (λ w v. v.hart) no_hart m

abbrev pub entry_of : ℕ → ℕ → MachineValue → Option (Option LeafEntry)
entry_of leaf x m = ask_leaf leaf (λ w v. leaf_entry x v) None m

abbrev pub spot_of : ℕ → ℕ → MachineValue → Option (Option LeafSpot)
spot_of leaf x m = ask_leaf leaf (λ w v. spot_at x v.ways v.buffer) None m

-- a child of a bus, and what it holds of an item
abbrev pub child_of : ℕ → ℕ → MachineValue → Option TreeChild
child_of bus child m = ask_bus bus (λ w d ns. child_label (child_at child ns)) (TreeChild.BusChild 0) m

abbrev pub child_hold_of : ℕ → ℕ → ℕ → MachineValue → Option Hold
child_hold_of bus child x m = ask_bus bus (λ w d ns. child_hold x (child_at child ns)) Hold.Invalid m

-- an entry of the down list over a bus, and the words and the place of a copy that is parked there
abbrev pub down_entry_of : ℕ → ℕ → MachineValue → Option (Option DownValue)
down_entry_of bus place m = ask_bus bus (λ w d ns. slice_get d.down place) None m

abbrev pub parked_words_of : ℕ → ℕ → MachineValue → Option (Option (List ℕ))
parked_words_of bus x m = ask_bus bus (λ w d ns. parked_words x d) None m

abbrev pub parked_place_of : ℕ → ℕ → MachineValue → Option (Option ℕ)
parked_place_of bus x m = ask_bus bus (λ w d ns. parked_place x d) None m

-- how long the lists over a bus are, and those of a leaf
abbrev pub lengths_at : ℕ → MachineValue → Option DirLengths
lengths_at bus m = ask_bus bus (λ w d ns. dir_lengths d) no_dir_lengths m

abbrev pub leaf_lengths_at : ℕ → MachineValue → Option LeafLengths
leaf_lengths_at leaf m = ask_leaf leaf (λ w v. leaf_lengths v) no_leaf_lengths m

-- how many transactions of a kind a bus has granted
abbrev pub grants_of : ℕ → TxKind → MachineValue → ℕ
grants_of bus kind m = granted_of kind (slice_index_or m.traffic bus no_traffic)

abbrev mutual
  -- the leaves of a part of the tree, from left to right, before others
  pub leaves_of : Node → List LeafValue → List LeafValue
  leaves_of (leaf_node v) rest = v ∷ rest
  leaves_of (dir_node d ns) rest = leaves_among ns rest

  pub leaves_among : Nodes → List LeafValue → List LeafValue
  leaves_among no_nodes rest = rest
  leaves_among (more_nodes n ns) rest = leaves_of n (leaves_among ns rest)

abbrev pub machine_leaves : MachineValue → List LeafValue
machine_leaves m = leaves_of (root_of m) []
