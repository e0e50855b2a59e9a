-- Every turn and run keeps all lists of a machine within their rooms, whatever the state.
use Rattle.std.proofs.Common.{◌≡◌, ℕ, true, List, [], ◌∷◌, Some, None, refl, sym, subst}
use Rattle.tree_model.specs.DdmTypes.declared.answers.TurnAnswer.{TurnAnswer}
use Rattle.tree_model.specs.DdmTypes.declared.turns.Turn.{Turn}
use Rattle.tree_model.specs.DdmTypes.ItemTable.{ItemTable}
use Rattle.tree_model.specs.DdmTypes.CodeMap.{CodeWord}
use Rattle.tree_model.specs.State.Values.{Node, leaf_node, dir_node, nodes, children, MachineValue, root_of}
use Rattle.tree_model.specs.State.Place.{Where, stamp_above, key_at_leaf, at_top}
use Rattle.tree_model.specs.State.Rooms.{dir_within, all_within, all_within_among}
use Rattle.tree_model.specs.Turns.Machine.{named_by, answer_here, node_after, bus_turn_of, victim_of, turn_answer, turn_root, turn_of, run_of}
use Rattle.tree_model.specs.Laws.{TurnsHere, IsWithin}
use Rattle.tree_model.proofs.Tests.{and-first, and-second, and-both}
use Rattle.tree_model.proofs.Changed.{changed-keeps}
use Rattle.tree_model.proofs.Children.{nodes-children}
use Rattle.tree_model.proofs.NamedNode.{turned}
use Rattle.tree_model.proofs.TurnChanges.{turn-root, turn-unanswered}
use Rattle.tree_model.proofs.BusRooms.{bus_step-within}
use Rattle.tree_model.proofs.HartRooms.{leaf_step-within}

module _ (n : ℕ) where
  node_after-within : (code : List CodeWord) (items : ItemTable) (t : Turn) (w : Where) (k : Node) → all_within n k ≡ true → all_within n (node_after code items t w k) ≡ true
  node_after-within code items t w (leaf_node v) within = leaf_step-within n code items (key_at_leaf w v.done) (victim_of t) v within
  node_after-within code items t w (dir_node d ns) within =
      let below : all_within_among n (nodes (children ns)) ≡ true = subst (λ ms. all_within_among n ms ≡ true) (sym (nodes-children ns)) (and-second (dir_within n d) _ within) in
      let after = bus_step-within n (stamp_above w) (bus_turn_of t) d (children ns) (and-first _ (all_within_among n ns) within) below in
      and-both _ _ after.parent after.kids

  turn_root-within : (t : Turn) (m : MachineValue) (a : TurnAnswer) → turn_answer t m ≡ Some a → all_within n (root_of m) ≡ true → all_within n (turn_root t m) ≡ true
  turn_root-within t m a some =
      let at = turned (named_by t) (answer_here m.code m.items t) (node_after m.code m.items t) a at_top (root_of m) some in
      changed-keeps (TurnsHere t m a) (λ j k. all_within n j ≡ true → all_within n k ≡ true) (λ ns ms. all_within_among n ns ≡ true → all_within_among n ms ≡ true) (λ w j k r within. rw r.becomes (node_after-within m.code m.items t w j within)) (λ d ns ms kept within. and-both _ _ (and-first _ (all_within_among n ns) within) (kept (and-second (dir_within n d) _ within))) (λ j k ns kept within. and-both _ _ (kept (and-first _ (all_within_among n ns) within)) (and-second (all_within n j) _ within)) (λ j ns ms kept within. and-both _ _ (and-first _ (all_within_among n ns) within) (kept (and-second (all_within n j) _ within))) at_top at.0 (root_of m) (turn_root t m) at.1

  pub turn-within : (t : Turn) (m : MachineValue) → all_within n (root_of m) ≡ true → all_within n (root_of (turn_of t m).machine) ≡ true
  turn-within t m within =
      elim (turn_answer t m) as (λ o. turn_answer t m ≡ o → all_within n (root_of (turn_of t m).machine) ≡ true) [
        | None ↦ λ none. subst (λ o. all_within n (root_of o.machine) ≡ true) (sym (turn-unanswered t m none)) within
        | Some a ↦ λ some. subst (λ k. all_within n k ≡ true) (sym (turn-root t m a some)) (turn_root-within t m a some within)
      ] refl

  pub run-within : (ts : List Turn) (m : MachineValue) → all_within n (root_of m) ≡ true → all_within n (root_of (run_of ts m).machine) ≡ true
  unfolding run_of
  run-within [] m within = within
  run-within (t ∷ ts) m within = run-within ts (turn_of t m).machine (turn-within t m within)

pub turn-rooms : (n : ℕ) (t : Turn) (m : MachineValue) → IsWithin n m → IsWithin n (turn_of t m).machine
turn-rooms n t m h = record { rooms = turn-within n t m h.rooms }

pub run-rooms : (n : ℕ) (ts : List Turn) (m : MachineValue) → IsWithin n m → IsWithin n (run_of ts m).machine
run-rooms n ts m h = record { rooms = run-within n ts m h.rooms }
