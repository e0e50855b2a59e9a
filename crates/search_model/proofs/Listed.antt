-- What a turn does that does something, one of the listed turns does.
-- Letters: m is a machine, t and u are turns, p is the node that they name, v a leaf, c a child, b a bus.
use Rattle.std.proofs.Common.{◌≡◌, ℕ, zero, suc, ◌+◌, ◌%◌, ◌<◌, ◌≤◌, true, false, List, [], ◌∷◌, ◌++◌, map, length, Option, Some, None, option_map, refl, sym, ap, subst, ◌∙◌, ◌⊎◌, inl, inr, true≢false, arith}
use Rattle.std.specs.Prelude.{filter, flat_map, nat_lt, slice_get, if◌then◌else◌}
use Rattle.std.specs.List.{range_with_len}
use Rattle.std.proofs.Math.Nat.{mod-lt, mod-mod}
use Rattle.std.proofs.lemmas.Bool.{ltb-true, cases_lt}
use Rattle.search_model.specs.DdmTypes.declared.answers.TurnAnswer.{TurnAnswer}
use Rattle.search_model.specs.DdmTypes.declared.operations.HaltCause.{HaltCause}
use Rattle.search_model.specs.DdmTypes.declared.keys.Key.{Key}
use Rattle.search_model.specs.DdmTypes.declared.sizes.LeafState.{LeafState}
use Rattle.search_model.specs.DdmTypes.declared.turns.Turn.{Turn}
use Rattle.search_model.specs.DdmTypes.CodeMap.{CodeWord}
use Rattle.search_model.specs.DdmTypes.ItemTable.{ItemTable}
use Rattle.search_model.specs.FlatModel.Hart.{ask_of}
use Rattle.tree_model.specs.declared.BusTurn.{BusTurn}
use Rattle.tree_model.specs.State.Blank.{no_node}
use Rattle.tree_model.specs.State.Child.{child_request, child_reply, child_leaving}
use Rattle.tree_model.specs.State.Directory.{dir_leaving}
use Rattle.tree_model.specs.State.Leaf.{leaf_leaving, copy_item, may_leave_buffer, buffer_item, buffer_full, free_way, waiting_item}
use Rattle.tree_model.specs.State.Lists.{chosen}
use Rattle.tree_model.specs.State.Place.{at_top, stamp_above, key_at_leaf}
use Rattle.tree_model.specs.State.Values.{LeafValue, Node, leaf_node, dir_node, children, MachineValue, root_of}
use Rattle.tree_model.specs.Turns.Bus.{bus_step, bus_judged, request_turn, reply_turn, leave_turn}
use Rattle.tree_model.specs.Turns.Children.{child_at}
use Rattle.tree_model.specs.Turns.Grant.{outcome_of, nothing_there, bus_answer}
use Rattle.tree_model.specs.Turns.HartTurn.{Need, no_need, a_copy, no_other_copy, time, need_of, deed_to_fetch, replaces, deed_by_need, deed_unless_waiting, deed_unless_halted, deed_of, LeafOutcome, answer_of_deed, leaf_after_deed, leaf_step}
use Rattle.tree_model.specs.Turns.Machine.{answer_here, node_after, outcome_node, machine_leaves, turn_of, named_by}
use Rattle.tree_model.specs.Turns.Tree.{leaf_of_number, bus_of_number}
use Rattle.tree_model.proofs.TurnChanges.{turn-unanswered}
use Rattle.recording_model.specs.Doing.{does_by, does_something, had_halted}
use Rattle.search_laws.specs.Space.{IsOneOf}
use Rattle.search_laws.proofs.Lists.{in-left, in-right, filter-passing, all-each, absurd-bool}
use Rattle.search_model.specs.Tried.{turns_of_leaf, BusParts, buses_of, bus_placed, in_order, leaving_count, leave_turns, turns_of_bus, turns_of_tree, doing_turns}
use Rattle.search_model.specs.Machines.{has_way, has_ways}
use Rattle.search_model.proofs.Members.{in-map, in-flat_map, in-first}
use Rattle.search_model.proofs.Named.{Placed, find, DoesThere, turn-same, turn-there, turn-nowhere, found-leaf, IsBusOf, found-bus}

-- one of the listed turns that does the same
pub record Listed (t : Turn) (m : MachineValue) : Type 0 where
  pub turn : Turn
  pub listed : IsOneOf (turns_of_tree m) turn
  pub same : turn_of turn m ≡ turn_of t m
  pub halted : had_halted turn m ≡ had_halted t m

-- ---- a hart's turn

module _ (code : List CodeWord) (items : ItemTable) (victim : ℕ) (v : LeafValue) where
  abbrev least : ℕ
  least = victim % v.sizes.way_count

  fetch-least : (x : ℕ) (state : LeafState) (way : Option ℕ) → deed_to_fetch x state least v way ≡ deed_to_fetch x state victim v way
  fetch-least x state (Some way) = refl
  fetch-least x state None = ap (λ k. replaces x state k (buffer_full v)) (mod-mod victim v.sizes.way_count)

  need-least : (need : Need) → deed_by_need code items least v need ≡ deed_by_need code items victim v need
  need-least no_need = refl
  need-least (a_copy x state) = fetch-least x state (free_way v.sizes x v.ways)
  need-least (no_other_copy x words) = refl
  need-least (time x) = refl

  waiting-least : (waiting : Option ℕ) → deed_unless_waiting code items least v waiting ≡ deed_unless_waiting code items victim v waiting
  waiting-least (Some x) = refl
  waiting-least None = need-least (need_of (ask_of code items v.hart) v)

  halted-least : (halt : Option HaltCause) → deed_unless_halted code items least v halt ≡ deed_unless_halted code items victim v halt
  halted-least (Some cause) = refl
  halted-least None = waiting-least (waiting_item v.ways v.buffer)

  leaf-least : (now : Key) → leaf_step code items now least v ≡ leaf_step code items now victim v
  unfolding leaf_step deed_of
  leaf-least now = ap (λ d. let o : LeafOutcome = record { answer = answer_of_deed now v d; leaf = leaf_after_deed v d } in o) (halted-least v.hart.halt)

hart-listed : (hart victim : ℕ) (m : MachineValue) (p : Placed) → has_ways m ≡ true → find (leaf_of_number hart) at_top (root_of m) ≡ Some p → Listed (Turn.Hart hart victim) m
unfolding has_ways
hart-listed hart victim m p ways found =
    let leaf = found-leaf hart at_top (root_of m) [] p found in
    let v = leaf.leaf in
    let t : Turn = Turn.Hart hart victim in
    let u : Turn = Turn.Hart hart (victim % v.sizes.way_count) in
    let some : 0 < v.sizes.way_count = ltb-true 0 v.sizes.way_count (all-each has_way (machine_leaves m) ways v leaf.listed) in
    let one : IsOneOf (turns_of_leaf v) (Turn.Hart v.number (victim % v.sizes.way_count)) = in-map (λ k. Turn.Hart v.number k) (range_with_len 0 v.sizes.way_count) (victim % v.sizes.way_count) (in-first v.sizes.way_count (victim % v.sizes.way_count) (mod-lt victim some)) in
    let step = leaf-least m.code m.items victim v (key_at_leaf p.place v.done) in
    let does : DoesThere m p t u = record {
      answer = ap (answer_here m.code m.items u p.place) leaf.is ∙ ap (λ (o : LeafOutcome). o.answer) step ∙ sym (ap (answer_here m.code m.items t p.place) leaf.is);
      after = ap (node_after m.code m.items u p.place) leaf.is ∙ ap (λ (o : LeafOutcome). leaf_node o.leaf) step ∙ sym (ap (node_after m.code m.items t p.place) leaf.is);
    } in
    record {
      turn = u;
      listed = in-left (flat_map turns_of_leaf (machine_leaves m)) _ u (in-flat_map turns_of_leaf (machine_leaves m) v u leaf.listed (subst (λ k. IsOneOf (turns_of_leaf v) (Turn.Hart k (victim % v.sizes.way_count))) leaf.named one));
      same = turn-same m p (leaf_of_number hart) t u refl refl found does;
      halted = refl;
    }

-- ---- a bus's turn

placed-still : (b : BusParts) (bs : List BusParts) (c : BusParts) → IsOneOf (b ∷ bs) c → IsOneOf (bus_placed b bs) c
placed-still b [] c i = i
placed-still b (d ∷ ds) c i = elim (nat_lt d.number b.number) as (λ z. IsOneOf (if z then d ∷ bus_placed b ds else b ∷ d ∷ ds) c) [
  | true ↦ elim i [
    | inl e ↦ inr (placed-still b ds c (inl e))
    | inr j ↦ elim j [
      | inl e ↦ inl e
      | inr k ↦ inr (placed-still b ds c (inr k))
    ]
  ]
  | false ↦ i
]

order-still : (bs : List BusParts) (c : BusParts) → IsOneOf bs c → IsOneOf (in_order bs) c
order-still [] c i = i
order-still (b ∷ bs) c (inl e) = placed-still b (in_order bs) c (inl e)
order-still (b ∷ bs) c (inr i) = placed-still b (in_order bs) c (inr (order-still bs c i))

-- a child that there is, or none
child-or-none : (c : ℕ) (ns : List Node) → (c < length ns) ⊎ (child_at c ns ≡ no_node)
child-or-none c [] = inr refl
child-or-none zero (n ∷ ns) = inl (omega arith)
child-or-none (suc c) (n ∷ ns) = elim (child-or-none c ns) [
  | inl below ↦ inl (omega (arith, below))
  | inr none ↦ inr none
]

module _ {X : Type 0} (item : X → ℕ) where
  chosen-least : (choice : ℕ) (xs : List X) → chosen item (choice % length xs) xs ≡ chosen item choice xs
  chosen-least choice [] = refl
  chosen-least choice (x ∷ xs) = ap (λ k. option_map item (slice_get (x ∷ xs) k)) (mod-mod choice (length (x ∷ xs)))

  chosen-none : (choice : ℕ) (xs : List X) → length xs ≤ 0 → chosen item choice xs ≡ None
  chosen-none choice [] none = refl
  chosen-none choice (x ∷ xs) none = absurd (omega (arith, none))

leaving-least : (choice : ℕ) (n : Node) → child_leaving (choice % leaving_count n) n ≡ child_leaving choice n
unfolding leaf_leaving dir_leaving
leaving-least choice (leaf_node v) = chosen-least buffer_item choice (filter may_leave_buffer v.buffer)
leaving-least choice (dir_node d ns) = chosen-least copy_item choice d.parked

leaving-none : (choice : ℕ) (n : Node) → leaving_count n ≤ 0 → child_leaving choice n ≡ None
unfolding leaf_leaving dir_leaving
leaving-none choice (leaf_node v) none = chosen-none buffer_item choice (filter may_leave_buffer v.buffer) none
leaving-none choice (dir_node d ns) none = chosen-none copy_item choice d.parked none

leave-listed : (bus k c choice : ℕ) (ns : List Node) → c < length ns → choice < leaving_count (child_at c ns) → IsOneOf (leave_turns bus k ns) (Turn.Leave bus (k + c) choice)
leave-listed bus k c choice [] below less = absurd (omega (arith, below))
leave-listed bus k zero choice (n ∷ ns) below less =
    let first = map (λ z. Turn.Leave bus k z) (range_with_len 0 (leaving_count n)) in
    let same : k ≡ k + zero = omega arith in
    let one : IsOneOf first (Turn.Leave bus k choice) = in-map (λ z. Turn.Leave bus k z) (range_with_len 0 (leaving_count n)) choice (in-first (leaving_count n) choice less) in
    in-left first (leave_turns bus (k + 1) ns) (Turn.Leave bus (k + zero) choice) (subst (λ i. IsOneOf first (Turn.Leave bus i choice)) same one)
leave-listed bus k (suc c) choice (n ∷ ns) below less =
    let first = map (λ z. Turn.Leave bus k z) (range_with_len 0 (leaving_count n)) in
    let same : (k + 1) + c ≡ k + suc c = omega arith in
    let one : IsOneOf (leave_turns bus (k + 1) ns) (Turn.Leave bus ((k + 1) + c) choice) = leave-listed bus (k + 1) c choice ns (omega (arith, below)) less in
    in-right first (leave_turns bus (k + 1) ns) (Turn.Leave bus (k + suc c) choice) (subst (λ i. IsOneOf (leave_turns bus (k + 1) ns) (Turn.Leave bus i choice)) same one)

module _ (bus : ℕ) (m : MachineValue) (p : Placed) (found : find (bus_of_number bus) at_top (root_of m) ≡ Some p) where
  abbrev here : IsBusOf bus (buses_of (root_of m) []) p
  here = found-bus bus at_top (root_of m) [] p found

  abbrev kids : List Node
  kids = children here.kids

  -- a turn of this bus is listed
  bus-listed : (f : ℕ → Turn) → IsOneOf (turns_of_bus (record { number = here.parent.bus; kids = kids })) (f here.parent.bus) → IsOneOf (turns_of_tree m) (f bus)
  bus-listed f one = in-right (flat_map turns_of_leaf (machine_leaves m)) _ (f bus)
      (subst (λ k. IsOneOf (flat_map turns_of_bus (in_order (buses_of (root_of m) []))) (f k)) here.named
      (in-flat_map turns_of_bus (in_order (buses_of (root_of m) [])) (record { number = here.parent.bus; kids = kids }) (f here.parent.bus) (order-still (buses_of (root_of m) []) _ here.listed) one))

  -- what its node answers
  bus-answers : (t : Turn) (b : BusTurn) → answer_here m.code m.items t p.place (dir_node here.parent here.kids) ≡ (bus_step (stamp_above p.place) b here.parent kids).answer → named_by t ≡ bus_of_number bus → (turn_of t m).answer ≡ (bus_step (stamp_above p.place) b here.parent kids).answer
  bus-answers t b is named = turn-there m p (bus_of_number bus) t named found ∙ ap (answer_here m.code m.items t p.place) here.is ∙ is

  nothing-answers : (t : Turn) (b : BusTurn) → (turn_of t m).answer ≡ (bus_step (stamp_above p.place) b here.parent kids).answer → bus_judged (stamp_above p.place) here.parent kids b ≡ nothing_there → does_something t m ≡ true → ⊥
  unfolding bus_step does_something
  nothing-answers t b answers nothing does =
      let answer : (turn_of t m).answer ≡ TurnAnswer.Empty = answers ∙ ap (bus_answer here.parent.bus) nothing in
      true≢false (sym does ∙ ap (λ a. does_by a (had_halted t m)) answer)

  down-listed : Listed (Turn.Down bus) m
  down-listed = record { turn = Turn.Down bus; listed = bus-listed (λ k. Turn.Down k) (inl refl); same = refl; halted = refl }

  -- the turns of its children, by kind
  abbrev requests : List Turn
  requests = map (Turn.Request here.parent.bus) (range_with_len 0 (length kids))

  abbrev replies : List Turn
  replies = map (Turn.Reply here.parent.bus) (range_with_len 0 (length kids))

  abbrev leaves : List Turn
  leaves = leave_turns here.parent.bus 0 kids

  request-listed : (c : ℕ) → does_something (Turn.Request bus c) m ≡ true → Listed (Turn.Request bus c) m
  request-listed c does = elim (child-or-none c kids) [
    | inl below ↦
        let u : Turn = Turn.Request here.parent.bus c in
        let one : IsOneOf requests u = in-map (Turn.Request here.parent.bus) (range_with_len 0 (length kids)) c (in-first (length kids) c below) in
        record {
          turn = Turn.Request bus c;
          listed = bus-listed (λ k. Turn.Request k c) (inr (in-left (requests ++ replies) leaves u (in-left requests replies u one)));
          same = refl;
          halted = refl;
        }
    | inr none ↦ absurd (nothing-answers (Turn.Request bus c) (BusTurn.Request c) (bus-answers (Turn.Request bus c) (BusTurn.Request c) refl refl) (ap (λ n. request_turn (stamp_above p.place) here.parent kids c (child_request n)) none) does)
  ]

  reply-listed : (c : ℕ) → does_something (Turn.Reply bus c) m ≡ true → Listed (Turn.Reply bus c) m
  reply-listed c does = elim (child-or-none c kids) [
    | inl below ↦
        let u : Turn = Turn.Reply here.parent.bus c in
        let one : IsOneOf replies u = in-map (Turn.Reply here.parent.bus) (range_with_len 0 (length kids)) c (in-first (length kids) c below) in
        record {
          turn = Turn.Reply bus c;
          listed = bus-listed (λ k. Turn.Reply k c) (inr (in-left (requests ++ replies) leaves u (in-right requests replies u one)));
          same = refl;
          halted = refl;
        }
    | inr none ↦ absurd (nothing-answers (Turn.Reply bus c) (BusTurn.Reply c) (bus-answers (Turn.Reply bus c) (BusTurn.Reply c) refl refl) (ap (λ n. reply_turn (stamp_above p.place) here.parent kids c (child_reply n)) none) does)
  ]

  -- a copy leaves: by the least choice that does the same
  copy-listed : (c choice : ℕ) → c < length kids → 0 < leaving_count (child_at c kids) → Listed (Turn.Leave bus c choice) m
  unfolding bus_step
  copy-listed c choice below some =
      let n = child_at c kids in
      let t : Turn = Turn.Leave bus c choice in
      let u : Turn = Turn.Leave bus c (choice % leaving_count n) in
      let judged = ap (λ o. leave_turn (stamp_above p.place) here.parent kids c o) (leaving-least choice n) in
      let does : DoesThere m p t u = record {
        answer = ap (answer_here m.code m.items u p.place) here.is ∙ ap (λ j. (outcome_of here.parent kids j).answer) judged ∙ sym (ap (answer_here m.code m.items t p.place) here.is);
        after = ap (node_after m.code m.items u p.place) here.is ∙ ap (λ j. outcome_node m.code m.items t (outcome_of here.parent kids j)) judged ∙ sym (ap (node_after m.code m.items t p.place) here.is);
      } in
      let one = leave-listed here.parent.bus 0 c (choice % leaving_count n) kids below (mod-lt choice some) in
      let v : Turn = Turn.Leave here.parent.bus c (choice % leaving_count n) in
      let same : 0 + c ≡ c = omega arith in
      let listed : IsOneOf leaves v = subst (λ i. IsOneOf leaves (Turn.Leave here.parent.bus i (choice % leaving_count n))) same one in
      record {
        turn = u;
        listed = bus-listed (λ k. Turn.Leave k c (choice % leaving_count n)) (inr (in-right (requests ++ replies) leaves v listed));
        same = turn-same m p (bus_of_number bus) t u refl refl found does;
        halted = refl;
      }

  leaves-nothing : (c choice : ℕ) → child_leaving choice (child_at c kids) ≡ None → does_something (Turn.Leave bus c choice) m ≡ true → ⊥
  leaves-nothing c choice none does =
      nothing-answers (Turn.Leave bus c choice) (BusTurn.Leave c choice) (bus-answers (Turn.Leave bus c choice) (BusTurn.Leave c choice) refl refl) (ap (leave_turn (stamp_above p.place) here.parent kids c) none) does

  leave-turn-listed : (c choice : ℕ) → does_something (Turn.Leave bus c choice) m ≡ true → Listed (Turn.Leave bus c choice) m
  leave-turn-listed c choice does = elim (cases_lt 0 (leaving_count (child_at c kids))) [
    | inl some ↦ elim (child-or-none c kids) [
      | inl below ↦ copy-listed c choice below some
      | inr none ↦ absurd (leaves-nothing c choice (ap (child_leaving choice) none ∙ leaving-none choice no_node (omega arith)) does)
    ]
    | inr few ↦ absurd (leaves-nothing c choice (leaving-none choice (child_at c kids) few) does)
  ]

-- ---- any turn

turn-listed : (t : Turn) (m : MachineValue) (p : Placed) → has_ways m ≡ true → find (named_by t) at_top (root_of m) ≡ Some p → does_something t m ≡ true → Listed t m
turn-listed (Turn.Hart hart victim) m p ways found does = hart-listed hart victim m p ways found
turn-listed (Turn.Down bus) m p ways found does = down-listed bus m p found
turn-listed (Turn.Request bus c) m p ways found does = request-listed bus m p found c does
turn-listed (Turn.Reply bus c) m p ways found does = reply-listed bus m p found c does
turn-listed (Turn.Leave bus c choice) m p ways found does = leave-turn-listed bus m p found c choice does

nowhere-nothing : (t : Turn) (m : MachineValue) → find (named_by t) at_top (root_of m) ≡ None → does_by (turn_of t m).answer (had_halted t m) ≡ false
nowhere-nothing t m none = ap (λ o. does_by o.answer (had_halted t m)) (turn-unanswered t m (turn-nowhere (named_by t) t m refl none))

pub doing-listed : (t : Turn) (m : MachineValue) → has_ways m ≡ true → does_something t m ≡ true → Listed t m
unfolding does_something
doing-listed t m ways does = elim (find (named_by t) at_top (root_of m)) as (λ o. find (named_by t) at_top (root_of m) ≡ o → Listed t m) [
  | None ↦ λ none. absurd-bool (does_by (turn_of t m).answer (had_halted t m)) does (nowhere-nothing t m none)
  | Some p ↦ λ some. turn-listed t m p ways some does
] refl

pub in-doing : (t : Turn) (m : MachineValue) (l : Listed t m) → does_something t m ≡ true → IsOneOf (doing_turns m) l.turn
unfolding doing_turns does_something
in-doing t m l does = filter-passing (λ u. does_something u m) (turns_of_tree m) l.turn l.listed (ap (λ o. does_by o.answer (had_halted l.turn m)) l.same ∙ ap (does_by (turn_of t m).answer) l.halted ∙ does)
