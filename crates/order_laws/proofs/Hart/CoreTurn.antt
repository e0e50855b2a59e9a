-- A hart's turn keeps the core rules of order, whatever it answers.
use Rattle.std.proofs.Common.{◌≡◌, ℕ, ◌<◌, Bool, true, false, refl, sym, ap, subst}
use Rattle.order_laws.specs.DdmTypes.declared.answers.TurnAnswer.{TurnAnswer}
use Rattle.order_laws.specs.FlatModel.Flat.{FlatMachine}
use Rattle.order_laws.specs.TreeModel.State.Values.{MachineValue, root_of}
use Rattle.order_laws.specs.TreeModel.State.Shape.{IsShaped}
use Rattle.order_laws.specs.TreeModel.Turns.Tree.{leaf_of_number, has_node}
use Rattle.order_laws.specs.TreeRules.Bus.Rules.{items_of_machine, IsMachineOk}
use Rattle.order_laws.specs.TreeRules.Order.Rules.{IsTimed, IsCore}
use Rattle.order_laws.proofs.Hart.Retiring.{has_retired}
use Rattle.order_laws.proofs.Hart.HartMachine.{next, answer, HartTurned, hart_turned, nothing_turned}
use Rattle.order_laws.proofs.Hart.Facts.{ItemFacts}
use Rattle.order_laws.specs.Hart.{HartTurnKeepsCore}
use Rattle.order_laws.proofs.Hart.FromRules.{facts_from_rules}
use Rattle.order_laws.proofs.Hart.CoreStill.{core_still}
use Rattle.order_laws.proofs.Hart.CoreCompleting.{core_completing}

module _ (s : FlatMachine) (hart victim : ℕ) (m : MachineValue) (shaped : IsShaped m) (ok : IsMachineOk m) (timed : IsTimed m) (order : IsCore s m) where
  facts : (x : ℕ) → x < items_of_machine m → ItemFacts s m x
  facts x l = facts_from_rules s m shaped ok timed order x l

  by_answer : HartTurned hart victim m → (a : TurnAnswer) → answer hart victim m ≡ a → IsCore s (next hart victim m)
  by_answer h (TurnAnswer.Retired op) e = core_completing s hart victim m op (record { shaped = shaped; ok = ok; timed = timed; order = order; facts = facts; turned = h; retired = e })
  by_answer h (TurnAnswer.Issued kind x) e = core_still s hart victim m h (ap has_retired e) order
  by_answer h (TurnAnswer.Waiting x) e = core_still s hart victim m h (ap has_retired e) order
  by_answer h (TurnAnswer.Halted cause) e = core_still s hart victim m h (ap has_retired e) order
  by_answer h (TurnAnswer.Granted l) e = core_still s hart victim m h (ap has_retired e) order
  by_answer h TurnAnswer.Empty e = core_still s hart victim m h (ap has_retired e) order
  by_answer h (TurnAnswer.Busy cause) e = core_still s hart victim m h (ap has_retired e) order

  core_kept : IsCore s (next hart victim m)
  core_kept = by_node (has_node (leaf_of_number hart) (root_of m)) refl where
    by_node : (t : Bool) → has_node (leaf_of_number hart) (root_of m) ≡ t → IsCore s (next hart victim m)
    by_node false e = subst (IsCore s) (sym (nothing_turned hart victim m e)) order
    by_node true e = by_answer (hart_turned hart victim m ok e) (answer hart victim m) refl

pub hart-turn-core : HartTurnKeepsCore
hart-turn-core s hart victim m shaped ok timed order = core_kept s hart victim m shaped ok timed order
