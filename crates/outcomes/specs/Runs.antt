-- What a run of many seeds needs of its two machines.
-- Letters: s is a machine as the code has it.
-- To be believed with the contracts: it says which machines the calls take.
use Rattle.std.specs.Prelude.{◌≡◌, ℕ, ◌+◌, ◌<◌, ◌≤◌, List, [], All, length}
use Rattle.outcomes.specs.DdmTypes.declared.turns.Turn.{Turn}
use Rattle.outcomes.specs.TreeModel.State.Values.{MachineValue}
use Rattle.outcomes.specs.TreeModel.State.Shape.{frame_of}
use Rattle.outcomes.specs.TextModel.ReadBack.{IsTurnOf}
use Rattle.outcomes.specs.TextModel.Schedule.{ShapeView}
use Rattle.outcomes.specs.DdmTree.Machine.{MachineState}
use Rattle.outcomes.specs.AnyMachine.Any.{machine_state}
use Rattle.outcomes.specs.AnyMachine.Kind.{kind_of}
use Rattle.measuring.specs.AnyRuns.Run.{NameParts}
use Rattle.outcome_model.specs.Table.{OutcomeLine}
use Rattle.outcomes.specs.AnyMachine.declared.machine.AnyMachine.{AnyMachine}

-- each turn of a schedule for this shape names a part of the machine
abbrev pub HasShape : ShapeView → MachineValue → Type 0
HasShape shape m = (ts : List Turn) → All (IsTurnOf shape) ts → NameParts ts m

-- one seed more can be counted in each line
abbrev pub AreFew : List OutcomeLine → Type 0
AreFew ls = All (λ (l : OutcomeLine). l.times < 18446744073709551615) ls

-- no operation is there yet, and so many turns more can be counted
pub record IsStart (turns : ℕ) (s : MachineState) : Type 0 where
  pub none : s.machine.ops ≡ []
  pub few : s.turns + turns ≤ 4294967295

-- the room for operations, taken and not, stays, and so do the nodes with their sizes, the code and the items
pub record KeepsRoom (s after : MachineState) : Type 0 where
  pub frame : frame_of after.machine ≡ frame_of s.machine
  pub room : length s.machine.ops + s.spare ≤ length after.machine.ops + after.spare

-- the machine is one of the same tree, code and items, with room for an operation in each of so many turns
pub record IsTwin (turns : ℕ) (start machine : AnyMachine) : Type 0 where
  pub kind : kind_of machine ≡ kind_of start
  pub frame : frame_of (machine_state machine).machine ≡ frame_of (machine_state start).machine
  pub room : turns ≤ length (machine_state machine).machine.ops + (machine_state machine).spare
