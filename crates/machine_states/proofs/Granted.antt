-- What a turn of a bus answers: that nothing is there, that it waits, or a grant.
-- Letters: t is a turn, m a machine, f and g are read of an answer, j is what a bus judged.
use Rattle.std.proofs.Common.{◌≡◌, ℕ, Bool, true, false, List, [], None, Some, refl, sym, ap, ◌∙◌}
use Rattle.ddm_types.specs.declared.answers.BusyCause.{BusyCause}
use Rattle.ddm_types.specs.declared.answers.LogEntry.{LogEntry}
use Rattle.ddm_types.specs.declared.answers.TurnAnswer.{TurnAnswer}
use Rattle.ddm_types.specs.declared.keys.Stamp.{Stamp}
use Rattle.ddm_types.specs.declared.turns.Turn.{Turn}
use Rattle.tree_model.specs.declared.BusTurn.{BusTurn}
use Rattle.tree_model.specs.State.Place.{at_top, stamp_above}
use Rattle.tree_model.specs.State.Values.{DirValue, Node, children, MachineValue, root_of}
use Rattle.tree_model.specs.Turns.Bus.{bus_judged, bus_step}
use Rattle.tree_model.specs.Turns.Grant.{Judged, bus_answer, granted, nothing_there, refused}
use Rattle.tree_model.specs.Turns.Machine.{answer_here, bus_turn_of, named_by, turn_of}
use Rattle.tree_model.specs.Turns.Tree.{bus_of_number}
use Rattle.tree_model.proofs.TurnChanges.{turn-unanswered}
use Rattle.outcomes.specs.RecordingModel.Doing.{does_by, does_something}
use Rattle.any_runs.specs.DdmTree.Reads.{is_down_request_or_reply}
use Rattle.explorer.specs.SearchModel.Tried.{is_quiet, is_quiet_answer}
use Rattle.explorer.proofs.SearchModel.Named.{find, found-bus, turn-nowhere, turn-there}

module _ (f g : TurnAnswer → Bool) (empty : f TurnAnswer.Empty ≡ g TurnAnswer.Empty) (busy : (cause : BusyCause) → f (TurnAnswer.Busy cause) ≡ g (TurnAnswer.Busy cause)) (grant : (entry : LogEntry) → f (TurnAnswer.Granted entry) ≡ g (TurnAnswer.Granted entry)) where
  judged-agree : (bus : ℕ) (j : Judged) → f (bus_answer bus j) ≡ g (bus_answer bus j)
  judged-agree bus nothing_there = empty
  judged-agree bus (refused cause) = busy cause
  judged-agree bus (granted e) = grant _

  step-agree : (above : Stamp) (b : BusTurn) (d : DirValue) (ns : List Node) → f (bus_step above b d ns).answer ≡ g (bus_step above b d ns).answer
  unfolding bus_step
  step-agree above b d ns = judged-agree d.bus (bus_judged above d ns b)

  bus-agree : (t : Turn) (bus : ℕ) (m : MachineValue) → named_by t ≡ bus_of_number bus → f (turn_of t m).answer ≡ g (turn_of t m).answer
  bus-agree t bus m named = elim (find (bus_of_number bus) at_top (root_of m)) as (λ o. find (bus_of_number bus) at_top (root_of m) ≡ o → f (turn_of t m).answer ≡ g (turn_of t m).answer) [
    | None ↦ λ none.
        let is = ap (λ o. o.answer) (turn-unanswered t m (turn-nowhere (bus_of_number bus) t m named none)) in
        ap f is ∙ empty ∙ sym (ap g is)
    | Some p ↦ λ some.
        let here = found-bus bus at_top (root_of m) [] p some in
        let is = turn-there m p (bus_of_number bus) t named some ∙ ap (answer_here m.code m.items t p.place) here.is in
        ap f is ∙ step-agree (stamp_above p.place) (bus_turn_of t) here.parent (children here.kids) ∙ sym (ap g is)
  ] refl

-- a test that is passed by grants alone
module _ (f : TurnAnswer → Bool) (empty : f TurnAnswer.Empty ≡ false) (busy : (cause : BusyCause) → f (TurnAnswer.Busy cause) ≡ false) (grant : (entry : LogEntry) → f (TurnAnswer.Granted entry) ≡ true) (m : MachineValue) where
  abbrev IsTold : Turn → Type 0
  IsTold t = f (turn_of t m).answer ≡ does_something t m

  down-told : (bus : ℕ) → IsTold (Turn.Down bus)
  unfolding does_something
  down-told bus = bus-agree f (λ a. does_by a false) empty busy grant (Turn.Down bus) bus m refl

  request-told : (bus child : ℕ) → IsTold (Turn.Request bus child)
  unfolding does_something
  request-told bus child = bus-agree f (λ a. does_by a false) empty busy grant (Turn.Request bus child) bus m refl

  reply-told : (bus child : ℕ) → IsTold (Turn.Reply bus child)
  unfolding does_something
  reply-told bus child = bus-agree f (λ a. does_by a false) empty busy grant (Turn.Reply bus child) bus m refl

  -- so it tells whether the turn does something
  pub grants-told : (t : Turn) → is_down_request_or_reply t ≡ true → (b : Bool) → b ≡ f (turn_of t m).answer → b ≡ does_something t m
  grants-told (Turn.Down bus) told b is = is ∙ down-told bus
  grants-told (Turn.Request bus child) told b is = is ∙ request-told bus child
  grants-told (Turn.Reply bus child) told b is = is ∙ reply-told bus child
  grants-told (Turn.Hart hart victim) told b is = cc
  grants-told (Turn.Leave bus child choice) told b is = cc

-- a turn of a bus is never quiet
module _ (m : MachineValue) where
  none-quiet : (t : Turn) (bus : ℕ) → named_by t ≡ bus_of_number bus → is_quiet_answer (turn_of t m).answer false ≡ false
  none-quiet t bus named = bus-agree (λ a. is_quiet_answer a false) (λ a. false) refl (λ cause. refl) (λ entry. refl) t bus m named

  down-unquiet : (bus : ℕ) → is_quiet m (Turn.Down bus) ≡ false
  unfolding is_quiet
  down-unquiet bus = none-quiet (Turn.Down bus) bus refl

  request-unquiet : (bus child : ℕ) → is_quiet m (Turn.Request bus child) ≡ false
  unfolding is_quiet
  request-unquiet bus child = none-quiet (Turn.Request bus child) bus refl

  reply-unquiet : (bus child : ℕ) → is_quiet m (Turn.Reply bus child) ≡ false
  unfolding is_quiet
  reply-unquiet bus child = none-quiet (Turn.Reply bus child) bus refl

  pub never-quiet : (t : Turn) → is_down_request_or_reply t ≡ true → is_quiet m t ≡ false
  never-quiet (Turn.Down bus) told = down-unquiet bus
  never-quiet (Turn.Request bus child) told = request-unquiet bus child
  never-quiet (Turn.Reply bus child) told = reply-unquiet bus child
  never-quiet (Turn.Hart hart victim) told = cc
  never-quiet (Turn.Leave bus child choice) told = cc
