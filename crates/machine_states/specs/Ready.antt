-- What a machine needs to be put into each of its states, and what is kept of it meanwhile.
-- Letters: start and now are machines as the code has them, s is a machine with its counts, ops are operations.
-- To be believed with the contracts: they speak of it.
use Rattle.std.specs.Prelude.{◌≡◌, ℕ, ◌≤◌, List, length, refl}
use Rattle.std.specs.Coded.{Coded, codes, code_by, coded×}
use Rattle.ddm_types.specs.declared.operations.Op.{Op}
use Rattle.ddm_types.specs.declared.turns.Turn.{Turn}
use Rattle.ddm_types.specs.CodeMap.{CodeWord}
use Rattle.ddm_types.specs.ItemTable.{ItemTable}
use Rattle.tree_model.specs.declared.Traffic.{Traffic}
use Rattle.tree_model.specs.Start.Nodes.{new_top, top_sizes}
use Rattle.tree_model.specs.Start.Sources.{width_of}
use Rattle.tree_model.specs.State.Codes.{node_code}
use Rattle.tree_model.specs.State.Values.{DirValue, Node, Nodes, leaf_node, dir_node, no_nodes, root_of}
use Rattle.tree_model.specs.Turns.Machine.{run_of}
use Rattle.any_runs.specs.AnyMachine.Any.{machine_state}
use Rattle.any_runs.specs.AnyMachine.Kind.{kind_of}
use Rattle.any_runs.specs.AnyMachine.declared.machine.AnyMachine.{AnyMachine}
use Rattle.any_runs.specs.DdmTree.Machine.{MachineState}
use Rattle.machine_states.specs.Started.{IsStarted}

-- the machine of accepted files, which has made no turn
pub record CanBegin (start : AnyMachine) : Type 0 where
  pub started : IsStarted (machine_state start).machine
  pub ways : (kind_of start).ways ≡ started.tree.way_count
  pub width : (kind_of start).width ≡ width_of started.tree
  pub turns : (machine_state start).turns ≡ 0

-- a machine of the same kind after some turns, so many at most
pub record IsLater (most : ℕ) (start now : AnyMachine) : Type 0 where
  pub kind : kind_of now ≡ kind_of start
  pub made : List Turn
  pub ran : (machine_state now).machine ≡ (run_of made (machine_state start).machine).machine
  pub turns : (machine_state now).turns ≤ most
  pub ops : length (machine_state now).machine.ops ≤ most

-- the start, the machine that was gone to, and that or the one after a turn from there
pub record StatesValue : Type 0 where
  pub start : MachineState
  pub at : MachineState
  pub reached : MachineState

-- the one that was gone to has made so many turns
pub record AreStates (made : ℕ) (start at reached : AnyMachine) : Type 0 where
  pub can : CanBegin start
  pub few : made ≤ 1048576
  pub gone : IsLater made start at
  pub later : IsLater 1048577 start reached

-- ---- how a proof stores them: each as its tree, and the rest beside it

pub data Beside : Type 0 where
  beside : List CodeWord → ItemTable → List Op → List Traffic → ℕ → ℕ → Beside

abbrev state_over : DirValue → Nodes → Beside → MachineState
state_over top kids (beside code items ops traffic spare turns) = record {
  machine = record { code = code; items = items; top = top; kids = kids; ops = ops; traffic = traffic };
  spare = spare;
  turns = turns;
}

-- the root of a machine is no leaf
abbrev state_of : Node → Beside → MachineState
state_of (dir_node top kids) b = state_over top kids b
state_of (leaf_node v) b = state_over (new_top (top_sizes 0 0) 0) no_nodes b

pub beside_code : Coded Beside
beside_code = hlevel codes

abbrev pub state_code : Coded MachineState
state_code =
    code_by (Node × Beside) (coded× node_code beside_code)
    (λ s. (root_of s.machine, beside s.machine.code s.machine.items s.machine.ops s.machine.traffic s.spare s.turns))
    (λ p. state_of p.0 p.1) (λ _. refl)

abbrev pub states_code : Coded StatesValue
states_code =
    code_by (MachineState × (MachineState × MachineState)) (coded× state_code (coded× state_code state_code))
    (λ v. (v.start, (v.at, v.reached))) (λ p. record { start = p.0; at = p.1.0; reached = p.1.1 }) (λ _. refl)
