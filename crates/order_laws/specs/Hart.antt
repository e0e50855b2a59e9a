-- What a hart's turn keeps of the rules of order, whatever it answers.
-- Proofs alone need it.
use Rattle.std.specs.Prelude.{ℕ}
use Rattle.order_laws.specs.DdmTypes.declared.turns.Turn.{Turn}
use Rattle.order_laws.specs.FlatModel.Flat.{FlatMachine}
use Rattle.order_laws.specs.TreeModel.State.Values.{MachineValue}
use Rattle.order_laws.specs.TreeModel.State.Shape.{IsShaped}
use Rattle.order_laws.specs.TreeModel.Turns.Machine.{turn_of}
use Rattle.order_laws.specs.TreeRules.Bus.Rules.{IsMachineOk}
use Rattle.order_laws.specs.TreeRules.Order.Rules.{IsTimed, IsCore}

-- the machine after the turn of a leaf's hart, with this number for what it replaces
abbrev pub after_hart : ℕ → ℕ → MachineValue → MachineValue
after_hart hart victim m = (turn_of (Turn.Hart hart victim) m).machine

-- it keeps the rules of time
abbrev pub HartTurnKeepsTime : Type 0
HartTurnKeepsTime = (hart victim : ℕ) (m : MachineValue) → IsShaped m → IsMachineOk m → IsTimed m → IsTimed (after_hart hart victim m)

-- and the core rules, with the same start
abbrev pub HartTurnKeepsCore : Type 0
HartTurnKeepsCore =
    (s : FlatMachine) (hart victim : ℕ) (m : MachineValue) → IsShaped m → IsMachineOk m → IsTimed m → IsCore s m →
    IsCore s (after_hart hart victim m)
