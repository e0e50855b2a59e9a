-- What every turn keeps of the rules of order.
-- Proofs alone need it.
use Rattle.std.specs.Prelude.{List}
use Rattle.order_laws.specs.DdmTypes.declared.turns.Turn.{Turn}
use Rattle.order_laws.specs.FlatModel.Flat.{FlatMachine}
use Rattle.order_laws.specs.TreeModel.State.Values.{MachineValue}
use Rattle.order_laws.specs.TreeModel.State.Shape.{IsShaped}
use Rattle.order_laws.specs.TreeModel.Turns.Machine.{turn_of, run_of}
use Rattle.order_laws.specs.TreeRules.Bus.Rules.{IsMachineOk}
use Rattle.order_laws.specs.TreeRules.Order.Rules.{IsTimed, IsCore}

-- a turn of a hart or of a bus, whatever it answers
abbrev pub EveryTurnKeepsTime : Type 0
EveryTurnKeepsTime = (t : Turn) (m : MachineValue) → IsShaped m → IsMachineOk m → IsTimed m → IsTimed (turn_of t m).machine

-- it keeps the core rules, with the same start
abbrev pub TurnKeepsCore : Type 0
TurnKeepsCore =
    (t : Turn) (m : MachineValue) (s : FlatMachine) → IsShaped m → IsMachineOk m → IsTimed m → IsCore s m →
    IsCore s (turn_of t m).machine

-- ---- a run

-- all that every turn keeps: the shape, the rules of every bus, and the rules of order from a start
pub record IsOrderly (s : FlatMachine) (m : MachineValue) : Type 0 where
  pub shaped : IsShaped m
  pub buses : IsMachineOk m
  pub timed : IsTimed m
  pub core : IsCore s m

abbrev pub RunStaysOrderly : Type 0
RunStaysOrderly = (s : FlatMachine) (m : MachineValue) (ts : List Turn) → IsOrderly s m → IsOrderly s (run_of ts m).machine
