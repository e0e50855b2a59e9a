-- A run of turns over a machine as the code has it.
-- Letters: s is a machine.
-- To be believed with the contracts: they speak of it.
use Rattle.std.specs.Prelude.{◌≡◌, ℕ, ◌+◌, ◌-◌, ◌<◌, ◌≤◌, Bool, true, List, length, max, All, if◌then◌else◌}
use Rattle.any_runs.specs.DdmTypes.declared.answers.TurnAnswer.{TurnAnswer}
use Rattle.any_runs.specs.DdmTypes.declared.turns.Turn.{Turn}
use Rattle.any_runs.specs.TreeModel.State.Values.{MachineValue}
use Rattle.any_runs.specs.TreeModel.Turns.Machine.{names_part, run_of}
use Rattle.text_model.specs.declared.RunCounts.{RunCounts}
use Rattle.text_model.specs.Run.{counts_of}
use Rattle.any_runs.specs.DdmTree.Machine.{MachineState}

-- each of the turns names a leaf, or a bus and a child, of the machine
abbrev pub NameParts : List Turn → MachineValue → Type 0
NameParts ts m = All (λ t. names_part t m ≡ true) ts

-- what the turns answer, and what they come to
abbrev pub answers_in : List Turn → MachineState → List TurnAnswer
answers_in ts s = (run_of ts s.machine).answers

abbrev pub counts_in : List Turn → MachineState → RunCounts
counts_in ts s = counts_of (answers_in ts s)

-- after the turns: the tables' machine, and room for one operation less for each that completed
abbrev pub ran : List Turn → MachineState → MachineState
ran ts s = record { machine = (run_of ts s.machine).machine; spare = s.spare - (counts_in ts s).retired; turns = s.turns + length ts }

-- with room for so many operations at least
abbrev pub with_room : ℕ → MachineState → MachineState
with_room n s = record s { spare = max s.spare n }

-- the same where the memory for it is had
abbrev pub roomed : Bool → ℕ → MachineState → MachineState
roomed had n s = record s { spare = if had then max s.spare n else s.spare }

-- so many turns more can be counted
abbrev pub CanRun : List Turn → MachineState → Type 0
CanRun ts s = s.turns + length ts ≤ 4294967295

-- every count is below a bound
pub record AreBelow (most : ℕ) (counts : RunCounts) : Type 0 where
  pub turns : counts.turns < most
  pub retired : counts.retired < most
  pub granted : counts.granted < most
  pub busy : counts.busy < most
