-- The machine as the code has it: the value of the tables, the room for operations and how many turns were made; and what its
-- type keeps.
-- Letters: m is a machine.
-- To be believed with the contracts: they speak of it.
use Rattle.std.specs.Prelude.{◌≡◌, ℕ, ◌+◌, ◌-◌, ◌<◌, Bool, true, ◌&&◌, nat_le, List, [], ◌∷◌, ◌++◌, replicate, Option, Some, slice_get}
use Rattle.std.specs.List.{list_all}
use Rattle.ddm_tree.specs.DdmTypes.declared.answers.TurnAnswer.{TurnAnswer}
use Rattle.ddm_tree.specs.DdmTypes.declared.operations.Op.{Op}
use Rattle.ddm_tree.specs.DdmTypes.declared.sizes.TreeCounts.{TreeCounts}
use Rattle.ddm_tree.specs.DdmTypes.declared.turns.Turn.{Turn}
use Rattle.ddm_tree.specs.DdmTypes.CodeMap.{CodeWord}
use Rattle.ddm_tree.specs.DdmTypes.ItemTable.{ItemTable, item_count}
use Rattle.ddm_tree.specs.TreeModel.declared.Traffic.{Traffic}
use Rattle.ddm_tree.specs.TreeModel.State.Values.{DirValue, Node, MachineValue, nodes, root_of}
use Rattle.ddm_tree.specs.TreeModel.State.Rooms.{all_within}
use Rattle.ddm_tree.specs.TreeModel.State.Shape.{IsShaped, skeleton, tree_counts}
use Rattle.ddm_tree.specs.TreeModel.Turns.Machine.{bus_turn_of, named_by, no_traffic, traffic_with, turn_of}
use Rattle.ddm_tree.specs.TreeModel.Turns.Tree.{Name, leaf_of_number, bus_of_number, has_node}
use Rattle.ddm_tree.specs.Counts.{counts_within}
use Rattle.ddm_tree.specs.Path.{node_at}
use Rattle.ddm_tree.specs.Ready.{words_are, HasChild, Leads}
use Rattle.ddm_tree.specs.Rules.{KeepsRules}

pub record MachineState : Type 0 where
  pub machine : MachineValue
  -- how many operations can still be taken without memory
  pub spare : ℕ
  -- how many turns were made
  pub turns : ℕ

-- the machine of its parts
abbrev pub machine_of : List CodeWord → ItemTable → DirValue → List Node → List Op → List Traffic → MachineValue
machine_of code items top kids ops traffic =
    record { code = code; items = items; top = top; kids = nodes kids; ops = ops; traffic = traffic }

-- without its operations
abbrev pub without_ops : MachineValue → MachineValue
without_ops m = record m { ops = [] }

-- before the first turn
abbrev pub new_machine : List CodeWord → ItemTable → DirValue → List Node → TreeCounts → MachineValue
new_machine code items top kids counts = machine_of code items top kids [] (replicate counts.buses no_traffic)

-- ---- what an answer adds: an operation that completed, for which there is room, and a grant

abbrev pub ops_after : TurnAnswer → List Op → List Op
ops_after (TurnAnswer.Retired op) ops = ops ++ op ∷ []
ops_after a ops = ops

abbrev pub traffic_after : TurnAnswer → List Traffic → List Traffic
traffic_after (TurnAnswer.Granted entry) ts = traffic_with entry ts
traffic_after a ts = ts

abbrev pub spare_after : TurnAnswer → ℕ → ℕ
spare_after (TurnAnswer.Retired op) spare = spare - 1
spare_after a spare = spare

-- the tables' turn, and room for one operation less where one completed
abbrev pub state_after : Turn → MachineState → MachineState
state_after t s =
    let turned = turn_of t s.machine in
    record { machine = turned.machine; spare = spare_after turned.answer s.spare; turns = s.turns + 1 }

-- ---- what the type keeps

-- none of the counts is above this
abbrev pub traffic_within : ℕ → Traffic → Bool
traffic_within most t =
    nat_le t.reads most
    && (nat_le t.copies most
    && (nat_le t.erases most && (nat_le t.exclusives most && (nat_le t.outs most && nat_le t.injects most))))

-- the machine has the leaf or bus of this name
abbrev pub is_part : Name → MachineValue → Bool
is_part name m = has_node name (root_of m)

-- the path to the leaf or bus of this name in the list of all leaves' paths and in that of all buses'
abbrev pub listed_path : Name → List (List ℕ) → List (List ℕ) → Option (List ℕ)
listed_path (leaf_of_number k) leaf_paths bus_paths = slice_get leaf_paths k
listed_path (bus_of_number k) leaf_paths bus_paths = slice_get bus_paths k

-- so many of both are listed that this one's is among them
abbrev pub has_path : Name → ℕ → ℕ → Type 0
has_path (leaf_of_number k) leaves buses = k < leaves
has_path (bus_of_number k) leaves buses = k < buses

-- the listed path leads to what a turn names, where the child is that the turn names
pub record IsFound (t : Turn) (n : Node) (leaf_paths bus_paths : List (List ℕ)) : Type 0 where
  pub path : List ℕ
  pub listed : listed_path (named_by t) leaf_paths bus_paths ≡ Some path
  pub leads : Leads (named_by t) path n
  pub child : HasChild (bus_turn_of t) (node_at path n)

-- The shape of a tree, the rules of its buses and of time, each list within its room, items of this width, and no count above the
-- number of turns; and the path to each leaf and to each bus stands in a list.
pub record IsMachine (width : ℕ) (m : MachineValue) (turns : ℕ) (leaf_paths bus_paths : List (List ℕ)) : Type 0 where
  pub shaped : IsShaped m
  pub rules : KeepsRules m
  pub rooms : all_within (item_count m.items) (root_of m) ≡ true
  pub words : words_are width (skeleton (root_of m)) ≡ true
  pub counts : counts_within turns (root_of m) ≡ true
  pub granted : list_all (traffic_within turns) m.traffic ≡ true
  pub paths : (name : Name) (path : List ℕ) → Leads name path (root_of m) → listed_path name leaf_paths bus_paths ≡ Some path

-- the parts of a new machine: it keeps the rules, nothing is counted yet, and there are as many leaves, buses and levels as is said
pub record IsNew (width : ℕ) (m : MachineValue) (counts : TreeCounts) : Type 0 where
  pub shaped : IsShaped m
  pub rules : KeepsRules m
  pub rooms : all_within (item_count m.items) (root_of m) ≡ true
  pub words : words_are width (skeleton (root_of m)) ≡ true
  pub uncounted : counts_within 0 (root_of m) ≡ true
  pub numbers : tree_counts m ≡ counts
