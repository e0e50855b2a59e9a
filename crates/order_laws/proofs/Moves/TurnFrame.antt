-- A turn of a bus leaves the operations, the table of items and the depth of the tree.
use Rattle.std.proofs.Common.{◌≡◌, ℕ, true, None, Some, refl, ap, subst, ◌∙◌}
use Rattle.order_laws.specs.DdmTypes.declared.answers.TurnAnswer.{TurnAnswer}
use Rattle.order_laws.specs.DdmTypes.declared.turns.Turn.{Turn}
use Rattle.order_laws.specs.TreeModel.State.Values.{LeafValue, Node, leaf_node, dir_node, MachineValue, root_of, children}
use Rattle.order_laws.specs.TreeModel.State.Place.{Where, at_top, stamp_above}
use Rattle.order_laws.specs.TreeModel.State.Shape.{Frame, depth_of, levels_of}
use Rattle.order_laws.specs.TreeModel.Turns.Bus.{bus_step, bus_judged}
use Rattle.order_laws.specs.TreeModel.Turns.Grant.{Judged, nothing_there, refused, granted, bus_answer}
use Rattle.order_laws.specs.TreeModel.Turns.Machine.{named_by, bus_turn_of, answer_here, node_after, recorded, turn_answer, turn_root, turn_of, with_root}
use Rattle.order_laws.specs.TreeModel.Turns.Tree.{is_named}
use Rattle.order_laws.specs.TreeModel.Laws.{TurnsHere}
use Rattle.order_laws.proofs.TreeModel.Changed.{changed-holds}
use Rattle.order_laws.proofs.TreeModel.FrameKept.{turn-frame}
use Rattle.order_laws.proofs.TreeModel.NamedNode.{turned}
use Rattle.order_laws.proofs.TreeModel.TurnChanges.{turn-unanswered, turn-answered}
use Rattle.order_laws.specs.Moves.CopiesMoved.{IsBusTurn}

-- an answer that completes nothing
abbrev NotRetired : TurnAnswer → Type 0
NotRetired (TurnAnswer.Retired op) = ⊥
NotRetired (TurnAnswer.Issued kind x) = Unit {0}
NotRetired (TurnAnswer.Waiting x) = Unit {0}
NotRetired (TurnAnswer.Halted cause) = Unit {0}
NotRetired (TurnAnswer.Granted e) = Unit {0}
NotRetired TurnAnswer.Empty = Unit {0}
NotRetired (TurnAnswer.Busy cause) = Unit {0}

recorded-ops : (a : TurnAnswer) (m : MachineValue) → NotRetired a → (recorded a m).ops ≡ m.ops
recorded-ops (TurnAnswer.Retired op) m h = absurd h
recorded-ops (TurnAnswer.Issued kind x) m h = refl
recorded-ops (TurnAnswer.Waiting x) m h = refl
recorded-ops (TurnAnswer.Halted cause) m h = refl
recorded-ops (TurnAnswer.Granted e) m h = refl
recorded-ops TurnAnswer.Empty m h = refl
recorded-ops (TurnAnswer.Busy cause) m h = refl

root-ops : (n : Node) (m : MachineValue) → (with_root n m).ops ≡ m.ops
root-ops (leaf_node v) m = refl
root-ops (dir_node d ns) m = refl

judged-answer : (b : ℕ) (j : Judged) → NotRetired (bus_answer b j)
judged-answer b nothing_there = tt
judged-answer b (refused cause) = tt
judged-answer b (granted g) = tt

pub not-leaf : (t : Turn) (v : LeafValue) → IsBusTurn t → is_named (named_by t) (leaf_node v) ≡ true → ⊥
not-leaf (Turn.Hart hart victim) v b h = absurd b
not-leaf (Turn.Down bus) v b h = cc
not-leaf (Turn.Request bus child) v b h = cc
not-leaf (Turn.Reply bus child) v b h = cc
not-leaf (Turn.Leave bus child choice) v b h = cc

module _ (t : Turn) (m : MachineValue) (bus : IsBusTurn t) where
  here-answer : (a : TurnAnswer) (w : Where) (n k : Node) → TurnsHere t m a w n k → NotRetired a
  unfolding bus_step
  here-answer a w (leaf_node v) k h = absurd (not-leaf t v bus h.named)
  here-answer a w (dir_node d ns) k h = subst NotRetired h.reads (judged-answer d.bus (bus_judged (stamp_above w) d (children ns) (bus_turn_of t)))

  answered : (a : TurnAnswer) → turn_answer t m ≡ Some a → (turn_of t m).machine.ops ≡ m.ops
  answered a some =
      let at = turned (named_by t) (answer_here m.code m.items t) (node_after m.code m.items t) a at_top (root_of m) some in
      let none : NotRetired a = changed-holds (TurnsHere t m a) (λ w path n k. NotRetired a) (λ above d j i path ns ms. NotRetired a) (here-answer a) (λ w d i path ns ms h. h) (λ above d j path n k ns h. h) (λ above d j i path n ns ms h. h) at_top at.0 (root_of m) (turn_root t m) at.1 in
      ap (λ o. o.machine.ops) (turn-answered t m a some) ∙ (recorded-ops a (with_root (turn_root t m) m) none ∙ root-ops (turn_root t m) m)

  pub ops-same : (turn_of t m).machine.ops ≡ m.ops
  ops-same = elim (turn_answer t m) as (λ o. turn_answer t m ≡ o → (turn_of t m).machine.ops ≡ m.ops) [
    | None ↦ λ none. ap (λ o. o.machine.ops) (turn-unanswered t m none)
    | Some a ↦ λ some. answered a some
  ] refl

pub items-same : (t : Turn) (m : MachineValue) → (turn_of t m).machine.items ≡ m.items
items-same t m = ap (λ (f : Frame). f.items) (turn-frame t m)

pub depth-same : (t : Turn) (m : MachineValue) → depth_of (turn_of t m).machine ≡ depth_of m
depth-same t m = ap (λ (f : Frame). levels_of f.bones) (turn-frame t m)
