-- A turn keeps the rules of its bus, and is busy for its reason.
-- Letters: p is the parent before the turn, ns are its children, q and ms the same after it, a is the answer.
use Rattle.std.proofs.Common.{◌≡◌, List, ap, ◌∙◌}
use Rattle.split_bus.specs.DdmTypes.declared.answers.TurnAnswer.{TurnAnswer}
use Rattle.split_bus.specs.DdmTypes.declared.keys.Stamp.{Stamp}
use Rattle.split_bus.specs.TreeModel.declared.BusTurn.{BusTurn}
use Rattle.split_bus.specs.TreeModel.State.Values.{DirValue, Node}
use Rattle.split_bus.specs.TreeModel.Turns.Bus.{bus_step}
use Rattle.bus_laws.proofs.BusKept.{bus-keeps}
use Rattle.busy_laws.specs.Reasons.{bus_reason, busy_cause}
use Rattle.busy_laws.proofs.Turns.{bus-step}
use Rattle.split_bus.specs.Outcomes.{IsOutcome}
use Rattle.split_bus.specs.StaysRuled.{StaysRuled}

module _ (above : Stamp) (t : BusTurn) (p : DirValue) (ns : List Node) (a : TurnAnswer) (q : DirValue) (ms : List Node) (is : IsOutcome (bus_step above t p ns) a q ms) where
  pub stays-ruled : StaysRuled above p ns a q ms
  unfolding StaysRuled
  stays-ruled n bus kids = rw (is.answer, is.parent, is.kids) (bus-keeps n above t p ns bus kids)

  pub busy-reason : busy_cause a ≡ bus_reason p ns t
  busy-reason = ap busy_cause is.answer ∙ bus-step above t p ns
