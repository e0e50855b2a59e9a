-- Every turn and every run keeps the rules, and the order of the witness from every start.
use Rattle.std.proofs.Common.{◌≡◌, List, sym, subst}
use Rattle.ddm_tree.specs.DdmTypes.declared.turns.Turn.{Turn}
use Rattle.ddm_tree.specs.FlatModel.Flat.{FlatMachine}
use Rattle.ddm_tree.specs.TreeModel.State.Values.{MachineValue}
use Rattle.ddm_tree.specs.TreeModel.State.Shape.{IsShaped}
use Rattle.ddm_tree.specs.TreeModel.Turns.Machine.{turn_of, run_of}
use Rattle.ddm_tree.specs.TreeRules.Bus.Rules.{IsMachineOk}
use Rattle.ddm_tree.specs.TreeRules.Order.Rules.{IsTimed, IsCore}
use Rattle.ddm_tree.specs.TreeRules.Witness.{IsWitnessed}
use Rattle.ddm_tree.proofs.BusLaws.TreeKept.{turn-keeps_rules}
use Rattle.ddm_tree.specs.OrderLaws.EveryTurn.{IsOrderly}
use Rattle.ddm_tree.proofs.OrderLaws.EveryTurn.{every_turn-keeps_time, turn-orderly, run-orderly}
use Rattle.headline.proofs.Witnessed.{witnessed}
use Rattle.ddm_tree.specs.Rules.{KeepsRules, StaysInOrder}

-- ---- the rules by themselves

pub rules-of : (m : MachineValue) → IsMachineOk m → IsTimed m → KeepsRules m
unfolding KeepsRules
rules-of m buses timed = (buses, timed)

pub rules-buses : (m : MachineValue) → KeepsRules m → IsMachineOk m
unfolding KeepsRules
rules-buses m rules = rules.0

pub rules-timed : (m : MachineValue) → KeepsRules m → IsTimed m
unfolding KeepsRules
rules-timed m rules = rules.1

pub turn-rules : (t : Turn) (m : MachineValue) → IsShaped m → KeepsRules m → KeepsRules (turn_of t m).machine
turn-rules t m shaped rules =
    rules-of (turn_of t m).machine (turn-keeps_rules t m (rules-buses m rules)) (every_turn-keeps_time t m shaped (rules-buses m rules) (rules-timed m rules))

-- ---- from a start

orderly : (s : FlatMachine) (m : MachineValue) → IsShaped m → KeepsRules m → IsCore s m → IsOrderly s m
orderly s m shaped rules core = record { shaped = shaped; buses = rules-buses m rules; timed = rules-timed m rules; core = core }

in-order : (s : FlatMachine) (m : MachineValue) → IsOrderly s m → IsCore s m × IsWitnessed s m
in-order s m is = (is.core, witnessed s m is.shaped is.buses is.timed is.core)

pub turn-order : (t : Turn) (m : MachineValue) → IsShaped m → KeepsRules m → StaysInOrder m (turn_of t m).machine
unfolding StaysInOrder
turn-order t m shaped rules s core = in-order s (turn_of t m).machine (turn-orderly s m t (orderly s m shaped rules core))

-- of the machine that a turn of the code begins with, and the one that it leaves
pub made-order : (t : Turn) (m before after : MachineValue) → m ≡ before → after ≡ (turn_of t m).machine → IsShaped m → KeepsRules m → StaysInOrder before after
made-order t m before after same made shaped rules = subst (λ n. StaysInOrder n after) same (subst (StaysInOrder m) (sym made) (turn-order t m shaped rules))

pub run-order : (ts : List Turn) (m : MachineValue) → IsShaped m → KeepsRules m → StaysInOrder m (run_of ts m).machine
unfolding StaysInOrder
run-order ts m shaped rules s core = in-order s (run_of ts m).machine (run-orderly s m ts (orderly s m shaped rules core))
