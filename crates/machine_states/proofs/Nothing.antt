-- A turn that names no part of the machine does nothing.
-- Letters: t is a turn, m a machine, c a child, ns are nodes.
use Rattle.std.proofs.Common.{◌≡◌, ℕ, zero, suc, ◌≤◌, false, List, [], ◌∷◌, length, Some, None, option_map, refl, sym, ap, ◌∙◌, arith}
use Rattle.std.proofs.lemmas.Bool.{ltb-false}
use Rattle.ddm_types.specs.declared.answers.TurnAnswer.{TurnAnswer}
use Rattle.ddm_types.specs.declared.turns.Turn.{Turn}
use Rattle.ddm_types.specs.Keys.{key_zero}
use Rattle.tree_model.specs.declared.BusTurn.{BusTurn}
use Rattle.tree_model.specs.State.Blank.{no_node}
use Rattle.tree_model.specs.State.Child.{child_request, child_reply, child_leaving}
use Rattle.tree_model.specs.State.Directory.{dir_leaving}
use Rattle.tree_model.specs.State.Leaf.{leaf_leaving}
use Rattle.tree_model.specs.State.Place.{at_top, stamp_above, key_at_leaf}
use Rattle.tree_model.specs.State.Values.{Node, dir_node, children, MachineValue, root_of}
use Rattle.tree_model.specs.Turns.Bus.{bus_step, bus_judged, request_turn, reply_turn, leave_turn}
use Rattle.tree_model.specs.Turns.Children.{child_at}
use Rattle.tree_model.specs.Turns.Grant.{nothing_there, bus_answer}
use Rattle.tree_model.specs.Turns.Machine.{answer_here, child_count, is_child_of, named_by, names_part, turn_of}
use Rattle.tree_model.specs.Turns.Tree.{leaf_of_number, bus_of_number, has_node, of_leaf, of_dir}
use Rattle.tree_model.proofs.NamedNode.{read_in-is_some}
use Rattle.tree_model.proofs.TurnChanges.{turn-unanswered, turn-changes_nothing}
use Rattle.outcomes.specs.RecordingModel.Doing.{does_by, does_something, had_halted}
use Rattle.outcomes.proofs.RecordingModel.Doing.{turn-rests}
use Rattle.explorer.proofs.SearchModel.Named.{Placed, find, read-there, turn-there, turn-nowhere, found-bus}

-- a child that there isn't has nothing
no-child : (c : ℕ) (ns : List Node) → length ns ≤ c → child_at c ns ≡ no_node
no-child c [] none = refl
no-child zero (n ∷ ns) none = absurd (omega (arith, none))
no-child (suc c) (n ∷ ns) none = no-child c ns (omega (arith, none))

module _ (m : MachineValue) where
  -- where the node isn't there
  absent : (t : Turn) → has_node (named_by t) (root_of m) ≡ false → (turn_of t m).answer ≡ TurnAnswer.Empty
  absent t none = ap (λ o. o.answer) (turn-changes_nothing t m none)

  abbrev rests : Turn → Type 0
  rests t = (turn_of t m).answer ≡ TurnAnswer.Empty

  -- a turn of a bus that there is, for a child that there isn't
  module _ (bus : ℕ) (p : Placed) (found : find (bus_of_number bus) at_top (root_of m) ≡ Some p) where
    abbrev kids : List Node
    kids = children (found-bus bus at_top (root_of m) [] p found).kids

    counted : child_count bus m ≡ Some (length kids)
    counted =
        let here = found-bus bus at_top (root_of m) [] p found in
        read-there (bus_of_number bus) (of_dir (λ w d ns. length ns) 0) at_top (root_of m) ∙ ap (option_map _) found ∙ ap (λ n. Some (of_dir (λ w d ns. length ns) 0 p.place n)) here.is

    nothing : (t : Turn) (b : BusTurn) → named_by t ≡ bus_of_number bus → bus_judged (stamp_above p.place) (found-bus bus at_top (root_of m) [] p found).parent kids b ≡ nothing_there
        → answer_here m.code m.items t p.place (dir_node (found-bus bus at_top (root_of m) [] p found).parent (found-bus bus at_top (root_of m) [] p found).kids) ≡ (bus_step (stamp_above p.place) b (found-bus bus at_top (root_of m) [] p found).parent kids).answer → rests t
    unfolding bus_step
    nothing t b named none answers =
        let here = found-bus bus at_top (root_of m) [] p found in
        turn-there m p (bus_of_number bus) t named found ∙ ap (answer_here m.code m.items t p.place) here.is ∙ answers ∙ ap (bus_answer here.parent.bus) none

    outside : (c : ℕ) → is_child_of c (child_count bus m) ≡ false → child_at c kids ≡ no_node
    outside c none = no-child c kids (ltb-false c (length kids) (sym (ap (is_child_of c) counted) ∙ none))

    request-rests : (c : ℕ) → is_child_of c (child_count bus m) ≡ false → rests (Turn.Request bus c)
    request-rests c none = nothing (Turn.Request bus c) (BusTurn.Request c) refl (ap (λ n. request_turn (stamp_above p.place) (found-bus bus at_top (root_of m) [] p found).parent kids c (child_request n)) (outside c none)) refl

    reply-rests : (c : ℕ) → is_child_of c (child_count bus m) ≡ false → rests (Turn.Reply bus c)
    reply-rests c none = nothing (Turn.Reply bus c) (BusTurn.Reply c) refl (ap (λ n. reply_turn (stamp_above p.place) (found-bus bus at_top (root_of m) [] p found).parent kids c (child_reply n)) (outside c none)) refl

    none-leaves : (choice : ℕ) → child_leaving choice no_node ≡ None
    unfolding leaf_leaving dir_leaving
    none-leaves choice = refl

    leave-rests : (c choice : ℕ) → is_child_of c (child_count bus m) ≡ false → rests (Turn.Leave bus c choice)
    leave-rests c choice none =
        nothing (Turn.Leave bus c choice) (BusTurn.Leave c choice) refl
        (ap (λ n. leave_turn (stamp_above p.place) (found-bus bus at_top (root_of m) [] p found).parent kids c (child_leaving choice n)) (outside c none)
        ∙ ap (λ o. leave_turn (stamp_above p.place) (found-bus bus at_top (root_of m) [] p found).parent kids c o) (none-leaves choice)) refl

  -- whether the bus is there or not
  by-bus : (t : Turn) (bus : ℕ) → named_by t ≡ bus_of_number bus → ((p : Placed) → find (bus_of_number bus) at_top (root_of m) ≡ Some p → rests t) → rests t
  by-bus t bus named there = elim (find (bus_of_number bus) at_top (root_of m)) as (λ o. find (bus_of_number bus) at_top (root_of m) ≡ o → rests t) [
    | None ↦ λ none. ap (λ o. o.answer) (turn-unanswered t m (turn-nowhere (bus_of_number bus) t m named none))
    | Some p ↦ λ some. there p some
  ] refl

  pub unnamed-rests : (t : Turn) → names_part t m ≡ false → (turn_of t m).answer ≡ TurnAnswer.Empty
  unnamed-rests (Turn.Hart hart victim) none = absent (Turn.Hart hart victim) (sym (read_in-is_some (leaf_of_number hart) (of_leaf (λ w v. key_at_leaf w v.done) key_zero) at_top (root_of m)) ∙ none)
  unnamed-rests (Turn.Down bus) none = absent (Turn.Down bus) (sym (read_in-is_some (bus_of_number bus) (of_dir (λ w d ns. length ns) 0) at_top (root_of m)) ∙ none)
  unnamed-rests (Turn.Request bus c) none = by-bus (Turn.Request bus c) bus refl (λ p found. request-rests bus p found c none)
  unnamed-rests (Turn.Reply bus c) none = by-bus (Turn.Reply bus c) bus refl (λ p found. reply-rests bus p found c none)
  unnamed-rests (Turn.Leave bus c choice) none = by-bus (Turn.Leave bus c choice) bus refl (λ p found. leave-rests bus p found c choice none)

  pub unnamed-stays : (t : Turn) → names_part t m ≡ false → (turn_of t m).machine ≡ m
  unfolding does_something
  unnamed-stays t none = turn-rests t m (ap (λ a. does_by a (had_halted t m)) (unnamed-rests t none))
