-- Of every turn: where it answers busy, the cause that it names is a fact of the machine before.
use Rattle.std.proofs.Common.{◌≡◌, ℕ, ◌%◌, Bool, true, false, nat_eq, List, length, Option, Some, None, Result, Ok, Err, refl, sym, ap, subst, ◌∙◌}
use Rattle.std.specs.Prelude.{⊤}
use Rattle.std.proofs.lemmas.Bool.{eqb-true}
use Rattle.headline.specs.DdmTypes.declared.answers.TurnAnswer.{TurnAnswer}
use Rattle.headline.specs.DdmTypes.declared.operations.HaltCause.{HaltCause}
use Rattle.headline.specs.DdmTypes.declared.keys.Key.{Key}
use Rattle.headline.specs.DdmTypes.declared.sizes.LeafState.{LeafState}
use Rattle.headline.specs.DdmTypes.declared.turns.Turn.{Turn}
use Rattle.headline.specs.DdmTypes.ItemTable.{ItemTable}
use Rattle.headline.specs.DdmTypes.CodeMap.{CodeWord}
use Rattle.headline.specs.FlatModel.Hart.{ask_of}
use Rattle.headline.specs.FlatModel.Flat.{Change}
use Rattle.headline.specs.TreeModel.declared.BusTurn.{BusTurn}
use Rattle.headline.specs.TreeModel.State.Values.{LeafValue, DirValue, Node, Nodes, leaf_node, dir_node, children, MachineValue, root_of}
use Rattle.headline.specs.TreeModel.State.Leaf.{free_way, buffer_full, waiting_item}
use Rattle.headline.specs.TreeModel.State.Child.{child_request, child_reply, child_leaving}
use Rattle.headline.specs.TreeModel.State.Place.{Where, at_top, stamp_above, key_at_leaf}
use Rattle.headline.specs.TreeModel.State.Shape.{IsShaped}
use Rattle.headline.specs.TreeModel.Turns.HartTurn.{Deed, has_halted, waits_for, halts, completes, fetches, upgrades, finds_buffer_full, Need, no_need, a_copy, no_other_copy, time, need_of, change_here, deed_of_change, replaces, deed_to_fetch, deed_by_need, deed_unless_waiting, deed_unless_halted, deed_of, answer_of_deed, leaf_step}
use Rattle.headline.specs.TreeModel.Turns.Children.{child_at}
use Rattle.headline.specs.TreeModel.Turns.Bus.{bus_judged, bus_step}
use Rattle.headline.specs.TreeModel.Turns.Tree.{is_named}
use Rattle.headline.specs.TreeModel.Turns.Machine.{named_by, answer_here, turn_answer, turn_of}
use Rattle.headline.proofs.TreeModel.TurnChanges.{turn-unanswered, turn-answered}
use Rattle.headline.proofs.TreeModel.LeafRooms.{leaf_within-facts}
use Rattle.headline.specs.TreeRules.Bus.Own.{leaf_lists}
use Rattle.headline.specs.TreeRules.Bus.Rules.{items_of_machine, IsMachineOk}
use Rattle.headline.specs.TreeRules.Witness.{none_has_room, busy_has_cause}
use Rattle.headline.specs.Causes.{BusyHasItsCause}
use Rattle.headline.proofs.Standing.{StandsIn, stands-ok, WasRead, was-read}
use Rattle.headline.proofs.Numbered.{told-leaf}
use Rattle.headline.proofs.FullLists.{full-is}
use Rattle.headline.proofs.Causes.{answer-holds, down-caused, request-caused, reply-caused}
use Rattle.headline.proofs.LeaveCauses.{leave-caused}

-- ---- a hart's turn

-- a leaf's turn that finds its buffer full
abbrev IsFullWhere : LeafValue → Deed → Type 0
IsFullWhere v (has_halted cause) = ⊤
IsFullWhere v (waits_for x) = ⊤
IsFullWhere v (halts cause) = ⊤
IsFullWhere v (completes c) = ⊤
IsFullWhere v (fetches x state way) = ⊤
IsFullWhere v (upgrades x words) = ⊤
IsFullWhere v finds_buffer_full = buffer_full v ≡ true

module _ (code : List CodeWord) (items : ItemTable) (victim : ℕ) (v : LeafValue) where
  replaces-full : (x : ℕ) (state : LeafState) (way : ℕ) (b : Bool) → buffer_full v ≡ b → IsFullWhere v (replaces x state way b)
  replaces-full x state way true e = e
  replaces-full x state way false e = tt

  fetch-full : (x : ℕ) (state : LeafState) (o : Option ℕ) → IsFullWhere v (deed_to_fetch x state victim v o)
  fetch-full x state (Some way) = tt
  fetch-full x state None = replaces-full x state (victim % v.sizes.way_count) (buffer_full v) refl

  change-full : (r : Result Change HaltCause) → IsFullWhere v (deed_of_change r)
  change-full (Ok c) = tt
  change-full (Err cause) = tt

  need-full : (n : Need) → IsFullWhere v (deed_by_need code items victim v n)
  need-full no_need = change-full (change_here code items v)
  need-full (a_copy x state) = fetch-full x state (free_way v.sizes x v.ways)
  need-full (no_other_copy x words) = tt
  need-full (time x) = tt

  waiting-full : (o : Option ℕ) → IsFullWhere v (deed_unless_waiting code items victim v o)
  waiting-full (Some x) = tt
  waiting-full None = need-full (need_of (ask_of code items v.hart) v)

  deed-full : IsFullWhere v (deed_of code items victim v)
  unfolding deed_of
  deed-full = by_halt v.hart.halt where
    by_halt : (o : Option HaltCause) → IsFullWhere v (deed_unless_halted code items victim v o)
    by_halt (Some cause) = tt
    by_halt None = waiting-full (waiting_item v.ways v.buffer)

module _ (m : MachineValue) (shaped : IsShaped m) (ok : IsMachineOk m) where
  hart-caused : (t : Turn) (code : List CodeWord) (items : ItemTable) (now : Key) (victim : ℕ) (v : LeafValue) → StandsIn (leaf_node v) (root_of m) → busy_has_cause t m (leaf_step code items now victim v).answer ≡ true
  unfolding leaf_step
  hart-caused t code items now victim v there = by_deed (deed_of code items victim v) (deed-full code items victim v) where
    by_deed : (d : Deed) → IsFullWhere v d → busy_has_cause t m (answer_of_deed now v d) ≡ true
    by_deed (has_halted cause) h = refl
    by_deed (waits_for x) h = refl
    by_deed (halts cause) h = refl
    by_deed (completes c) h = refl
    by_deed (fetches x state way) h = refl
    by_deed (upgrades x words) h = refl
    by_deed finds_buffer_full h =
        told-leaf m shaped v there (λ u. nat_eq (length u.buffer) u.sizes.buffer_room)
        ∙ full-is (length v.buffer) v.sizes.buffer_room (leaf_within-facts (items_of_machine m) v ((stands-ok (items_of_machine m) (leaf_node v) (root_of m) there ok.tree).each leaf_lists)).buffer h

  -- ---- a turn of a bus

  bus-caused : (t : Turn) (w : Where) (d : DirValue) (ns : Nodes) → StandsIn (dir_node d ns) (root_of m) → is_named (named_by t) (dir_node d ns) ≡ true → busy_has_cause t m (answer_here m.code m.items t w (dir_node d ns)) ≡ true
  unfolding bus_step
  bus-caused t w d ns there named = by_turn t named where
    by_turn : (u : Turn) → is_named (named_by u) (dir_node d ns) ≡ true → busy_has_cause u m (answer_here m.code m.items u w (dir_node d ns)) ≡ true
    by_turn (Turn.Hart hart victim) named = absurd (let wrong : ⊥ = cc in wrong)
    by_turn (Turn.Down bus) named = answer-holds m shaped ok (Turn.Down bus) d ns there (bus_judged (stamp_above w) d (children ns) BusTurn.Down) (down-caused m shaped ok (Turn.Down bus) d ns there d.down)
    by_turn (Turn.Request bus child) named =
        answer-holds m shaped ok (Turn.Request bus child) d ns there (bus_judged (stamp_above w) d (children ns) (BusTurn.Request child)) (request-caused m shaped ok (Turn.Request bus child) d ns there (stamp_above w) child (child_request (child_at child (children ns))))
    by_turn (Turn.Reply bus child) named =
        answer-holds m shaped ok (Turn.Reply bus child) d ns there (bus_judged (stamp_above w) d (children ns) (BusTurn.Reply child)) (reply-caused m shaped ok (Turn.Reply bus child) d ns there (stamp_above w) child (child_reply (child_at child (children ns))))
    by_turn (Turn.Leave bus child choice) named =
        answer-holds m shaped ok (Turn.Leave bus child choice) d ns there (bus_judged (stamp_above w) d (children ns) (BusTurn.Leave child choice))
        (leave-caused m shaped ok (Turn.Leave bus child choice) d ns there child (λ x. ap (λ b. none_has_room b child x m) (sym (eqb-true d.bus bus named))) (stamp_above w) (child_leaving choice (child_at child (children ns))))

  -- ---- any turn

  leaf-caused : (t : Turn) (w : Where) (v : LeafValue) → StandsIn (leaf_node v) (root_of m) → busy_has_cause t m (answer_here m.code m.items t w (leaf_node v)) ≡ true
  leaf-caused t w v there = hart-caused t m.code m.items (key_at_leaf w v.done) _ v there

  node-caused : (t : Turn) (w : Where) (n : Node) → StandsIn n (root_of m) → is_named (named_by t) n ≡ true → busy_has_cause t m (answer_here m.code m.items t w n) ≡ true
  node-caused t w (leaf_node v) there named = leaf-caused t w v there
  node-caused t w (dir_node d ns) there named = bus-caused t w d ns there named

pub busy-has_cause : BusyHasItsCause
busy-has_cause t m shaped ok = go (turn_answer t m) refl where
  read : (a : TurnAnswer) → WasRead (named_by t) (answer_here m.code m.items t) a (root_of m) → busy_has_cause t m a ≡ true
  read a r = subst (λ b. busy_has_cause t m b ≡ true) r.is (node-caused m shaped ok t r.place r.node r.stands r.named)

  go : (o : Option TurnAnswer) → turn_answer t m ≡ o → busy_has_cause t m (turn_of t m).answer ≡ true
  go None e = ap (λ o. busy_has_cause t m o.answer) (turn-unanswered t m e)
  go (Some a) e = ap (λ o. busy_has_cause t m o.answer) (turn-answered t m a e) ∙ read a (was-read (named_by t) (answer_here m.code m.items t) a at_top (root_of m) e)
