-- Which turns of a machine do something.
-- Letters: t is a turn, m a machine.
-- To be believed: it is what is recorded of a run.
use Rattle.std.specs.Prelude.{Bool, true, false, not, Option, Some, None, is_some}
use Rattle.recording_model.specs.DdmTypes.declared.answers.TurnAnswer.{TurnAnswer}
use Rattle.recording_model.specs.DdmTypes.declared.turns.Turn.{Turn}
use Rattle.recording_model.specs.FlatModel.Hart.{HartValue}
use Rattle.recording_model.specs.TreeModel.State.Values.{MachineValue}
use Rattle.recording_model.specs.TreeModel.Turns.Machine.{hart_of, turn_of}

abbrev pub is_halted : Option HartValue → Bool
is_halted None = false
is_halted (Some hart) = is_some hart.halt

-- the hart whose turn it is has halted; a bus has none
abbrev pub had_halted : Turn → MachineValue → Bool
had_halted (Turn.Hart hart victim) m = is_halted (hart_of hart m)
had_halted (Turn.Down bus) m = false
had_halted (Turn.Request bus child) m = false
had_halted (Turn.Reply bus child) m = false
had_halted (Turn.Leave bus child choice) m = false

-- a turn that answers so, of a hart that had halted before or not, does something
abbrev pub does_by : TurnAnswer → Bool → Bool
does_by (TurnAnswer.Retired op) halted = true
does_by (TurnAnswer.Issued kind x) halted = true
does_by (TurnAnswer.Waiting x) halted = false
does_by (TurnAnswer.Halted cause) halted = not halted
does_by (TurnAnswer.Granted entry) halted = true
does_by TurnAnswer.Empty halted = false
does_by (TurnAnswer.Busy cause) halted = false

-- a turn does something where it completes an instruction, issues a request, is granted, or halts its hart
unfoldable pub does_something : Turn → MachineValue → Bool
does_something t m = does_by (turn_of t m).answer (had_halted t m)
