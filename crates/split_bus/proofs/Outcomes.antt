-- Outcomes of turns: where a list is full, and where none is.
use Rattle.std.proofs.Common.{◌≡◌, List, Option, Some, None, refl}
use Rattle.split_bus.specs.DdmTypes.declared.answers.QueueName.{QueueName}
use Rattle.split_bus.specs.DdmTypes.declared.answers.BusyCause.TheVariants.{QueueFull}
use Rattle.split_bus.specs.DdmTypes.declared.answers.TurnAnswer.{TurnAnswer}
use Rattle.split_bus.specs.DdmTypes.declared.answers.TurnAnswer.TheVariants.{Busy}
use Rattle.split_bus.specs.TreeModel.State.Values.{DirValue, Node}
use Rattle.split_bus.specs.TreeModel.Turns.Grant.{Grant, granted, unless_full, outcome_of}
use Rattle.split_bus.specs.Outcomes.{IsOutcome}

module _ (p : DirValue) (ns : List Node) (needed : Option QueueName) (g : Grant) where
  -- a list is full
  pub full_outcome : (list : QueueName) (a : TurnAnswer) → Some list ≡ needed → a ≡ Busy (QueueFull list) → IsOutcome (outcome_of p ns (unless_full needed g)) a p ns
  unfolding unless_full
  full_outcome list a full answer = rw (← full, answer) (record { answer = refl; parent = refl; kids = refl })

  -- each list has a place
  pub room_outcome : (a : TurnAnswer) (q : DirValue) (ms : List Node) → None ≡ needed → IsOutcome (outcome_of p ns (granted g)) a q ms → IsOutcome (outcome_of p ns (unless_full needed g)) a q ms
  unfolding unless_full
  room_outcome a q ms room outcome = rw (← room) outcome
