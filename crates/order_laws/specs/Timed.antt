-- What every turn keeps of the rules of time and of the commands of down lists.
-- Proofs alone need it.
use Rattle.std.specs.Prelude.{◌≡◌}
use Rattle.order_laws.specs.DdmTypes.declared.turns.Turn.{Turn}
use Rattle.order_laws.specs.TreeModel.State.Values.{MachineValue}
use Rattle.order_laws.specs.TreeModel.State.Shape.{IsShaped}
use Rattle.order_laws.specs.TreeModel.Turns.Machine.{turn_of}
use Rattle.order_laws.specs.TreeRules.Bus.Own.{IsTopOk}
use Rattle.order_laws.specs.TreeRules.Order.Rules.{IsTimed}
use Rattle.order_lists.specs.Commands.{CommandsArePastTaken}
use Rattle.order_laws.specs.Moves.CopiesMoved.{IsBusTurn}

-- a turn that completes no instruction keeps the rules of time
abbrev pub TurnKeepsTime : Type 0
TurnKeepsTime =
    (t : Turn) (m : MachineValue) → IsShaped m → IsTopOk m.top → IsTimed m → (turn_of t m).machine.ops ≡ m.ops →
    IsTimed (turn_of t m).machine

-- every turn keeps the rule of commands: a read, an erase or an inject in a down list has a greater stamp than the last that the
-- directory's own bus took over
abbrev pub TurnKeepsCommands : Type 0
TurnKeepsCommands =
    (t : Turn) (m : MachineValue) → IsShaped m → IsTopOk m.top → IsTimed m → CommandsArePastTaken m →
    CommandsArePastTaken (turn_of t m).machine

-- it completes no instruction, and keeps the rules of time
abbrev pub BusTurnKeepsTime : Type 0
BusTurnKeepsTime = (t : Turn) (m : MachineValue) → IsBusTurn t → IsShaped m → IsTopOk m.top → IsTimed m → IsTimed (turn_of t m).machine
