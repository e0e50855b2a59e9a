-- No turn changes how many registers a hart has.
-- Letters: h is a hart, v a leaf, c a change, d a deed, t a turn, m a machine, k a node.
use Rattle.std.proofs.Common.{◌≡◌, ℕ, Bool, true, false, cond, ◌&&◌, nat_eq, List, [], ◌∷◌, map, length, Option, Some, None, refl, sym, ap, subst, ◌∙◌}
use Rattle.std.specs.Prelude.{Result, Ok, Err, slice_set}
use Rattle.std.proofs.Math.ListN.{length-set}
use Rattle.tree_model.specs.DdmTypes.declared.answers.TurnAnswer.{TurnAnswer}
use Rattle.tree_model.specs.DdmTypes.declared.turns.Turn.{Turn}
use Rattle.tree_model.specs.DdmTypes.declared.keys.Key.{Key}
use Rattle.tree_model.specs.DdmTypes.declared.operations.HaltCause.{HaltCause}
use Rattle.tree_model.specs.DdmTypes.declared.sizes.LeafState.{LeafState}
use Rattle.tree_model.specs.DdmTypes.ItemTable.{ItemTable}
use Rattle.tree_model.specs.DdmTypes.CodeMap.{CodeWord}
use Rattle.tree_model.specs.FlatModel.declared.Ask.{Ask}
use Rattle.tree_model.specs.FlatModel.Hart.{HartValue, Finished, Action, with_register, Halts, Computes, Puts, Loads, Stores, Reserves, StoresIfReserved, Changes, ask_of, action_of, finish_by, finish_of, storing_if}
use Rattle.tree_model.specs.FlatModel.Flat.{Change, change_by, conditional, has_reserved}
use Rattle.tree_model.proofs.FlatModel.Actions.{IsNextOf, IsActionOf, action_is}
use Rattle.tree_model.specs.State.Values.{LeafValue, Node, leaf_node, dir_node, nodes, children, MachineValue, root_of}
use Rattle.tree_model.specs.State.Leaf.{free_way, waiting_item, buffer_full}
use Rattle.tree_model.specs.State.Place.{Where, stamp_above, key_at_leaf, at_top}
use Rattle.tree_model.specs.Turns.HartTurn.{Deed, has_halted, waits_for, halts, completes, fetches, upgrades, finds_buffer_full, Need, no_need, a_copy, no_other_copy, time, need_of, words_here, change_here, deed_of_change, replaces, deed_to_fetch, deed_by_need, deed_unless_waiting, deed_unless_halted, deed_of, leaf_after_deed, leaf_step}
use Rattle.tree_model.specs.Turns.Bus.{bus_step}
use Rattle.tree_model.specs.Turns.Machine.{named_by, answer_here, node_after, bus_turn_of, victim_of, turn_answer, turn_root, turn_of}
use Rattle.tree_model.specs.Laws.{TurnsHere, Kept, leaf_kept, dir_kept, kept_of}
use Rattle.tree_model.proofs.Tests.{and-first, and-second, and-both}
use Rattle.tree_model.proofs.Changed.{changed-keeps}
use Rattle.tree_model.proofs.Children.{nodes-children}
use Rattle.tree_model.proofs.BusKeeps.{bus_step-keeps}
use Rattle.tree_model.proofs.NamedNode.{turned}
use Rattle.tree_model.proofs.TurnChanges.{turn-root, turn-unanswered}
use Rattle.film_model.specs.Replay.{have_registers, have_registers_among}

abbrev register_count : HartValue → ℕ
register_count h = length h.registers

-- ---- an instruction

with_one : (h : HartValue) (rd v : ℕ) → register_count (with_register h rd v) ≡ register_count h
with_one h rd v = by (nat_eq rd 0) where
  by : (b : Bool) → length (cond b h.registers (slice_set h.registers rd v)) ≡ length h.registers
  by true = refl
  by false = length-set h.registers rd v

next_count : (h after : HartValue) → IsNextOf h after → register_count after ≡ register_count h
next_count h after next = ap register_count next.is ∙ with_one h next.rd next.value

action_count : (items : ItemTable) (act : Action) (h : HartValue) (words : List ℕ) (sc_ok : Bool) → IsActionOf items h act → register_count (finish_by act h words sc_ok).hart ≡ register_count h
action_count items (Halts cause) h words sc_ok is = refl
action_count items (Computes after) h words sc_ok is = next_count h after is
action_count items (Puts byte after) h words sc_ok is = next_count h after is
action_count items (Loads op rd a) h words sc_ok is = with_one h rd _
action_count items (Stores op v a) h words sc_ok is = refl
action_count items (Reserves rd a) h words sc_ok is = with_one h rd _
action_count items (StoresIfReserved rd v a) h words sc_ok is = by sc_ok where
  by : (b : Bool) → register_count (storing_if b h rd v a words).hart ≡ register_count h
  by true = with_one h rd _
  by false = with_one h rd _
action_count items (Changes op rd v a) h words sc_ok is = with_one h rd _

finish_count : (code : List CodeWord) (items : ItemTable) (h : HartValue) (words : List ℕ) (sc_ok : Bool) → register_count (finish_of code items h words sc_ok).hart ≡ register_count h
unfolding finish_of
finish_count code items h words sc_ok = action_count items (action_of code items h) h words sc_ok (action_is code items h)

-- ---- a hart's turn

abbrev IsCountedChange : ℕ → Result Change HaltCause → Type 0
IsCountedChange count (Ok c) = register_count c.after.hart ≡ count
IsCountedChange count (Err cause) = Unit {0}

-- a change of this instruction leaves so many registers
module _ (count : ℕ) (finish : List ℕ → Bool → Finished) (counted : (words : List ℕ) (sc_ok : Bool) → register_count (finish words sc_ok).hart ≡ count) where
  stored_count : (b : Bool) (x : ℕ) (words : List ℕ) → register_count (conditional b x (finish words)).after.hart ≡ count
  stored_count true x words = counted words true
  stored_count false x words = counted words false

  change_count : (a : Ask) (reserved : Option ℕ) (words : ℕ → List ℕ) (sc_ok : Bool) → IsCountedChange count (change_by a reserved finish words sc_ok)
  change_count Ask.Plain reserved words sc_ok = counted [] false
  change_count (Ask.Put byte) reserved words sc_ok = counted [] false
  change_count (Ask.NeedsShared x lr) reserved words sc_ok = counted (words x) false
  change_count (Ask.NeedsExclusive x) reserved words sc_ok = counted (words x) false
  change_count (Ask.Conditional x) reserved words sc_ok = stored_count (sc_ok && has_reserved reserved x) x (words x)
  change_count (Ask.Halt cause) reserved words sc_ok = tt

abbrev IsCountedDeed : ℕ → Deed → Type 0
IsCountedDeed count (has_halted cause) = Unit {0}
IsCountedDeed count (waits_for x) = Unit {0}
IsCountedDeed count (halts cause) = Unit {0}
IsCountedDeed count (completes c) = register_count c.after.hart ≡ count
IsCountedDeed count (fetches x state way) = Unit {0}
IsCountedDeed count (upgrades x words) = Unit {0}
IsCountedDeed count finds_buffer_full = Unit {0}

module _ (code : List CodeWord) (items : ItemTable) (victim : ℕ) (v : LeafValue) where
  abbrev own_count : ℕ
  own_count = register_count v.hart

  by_change : (c : Result Change HaltCause) → IsCountedChange own_count c → IsCountedDeed own_count (deed_of_change c)
  by_change (Ok c) counted = counted
  by_change (Err cause) counted = tt

  here : IsCountedDeed own_count (deed_of_change (change_here code items v))
  unfolding change_here
  here = by_change (change_by (ask_of code items v.hart) v.reservation (finish_of code items v.hart) (words_here v) true)
      (change_count own_count (finish_of code items v.hart) (λ words sc_ok. finish_count code items v.hart words sc_ok) (ask_of code items v.hart) v.reservation (words_here v) true)

  by_buffer : (x : ℕ) (state : LeafState) (way : ℕ) (full : Bool) → IsCountedDeed own_count (replaces x state way full)
  by_buffer x state way true = tt
  by_buffer x state way false = tt

  by_way : (x : ℕ) (state : LeafState) (way : Option ℕ) → IsCountedDeed own_count (deed_to_fetch x state victim v way)
  by_way x state (Some way) = tt
  by_way x state None = by_buffer x state _ (buffer_full v)

  by_need : (n : Need) → IsCountedDeed own_count (deed_by_need code items victim v n)
  by_need no_need = here
  by_need (a_copy x state) = by_way x state (free_way v.sizes x v.ways)
  by_need (no_other_copy x words) = tt
  by_need (time x) = tt

  by_waiting : (waiting : Option ℕ) → IsCountedDeed own_count (deed_unless_waiting code items victim v waiting)
  by_waiting (Some x) = tt
  by_waiting None = by_need (need_of (ask_of code items v.hart) v)

  by_halt : (halted : Option HaltCause) → IsCountedDeed own_count (deed_unless_halted code items victim v halted)
  by_halt (Some cause) = tt
  by_halt None = by_waiting (waiting_item v.ways v.buffer)

  deed_count : IsCountedDeed own_count (deed_of code items victim v)
  unfolding deed_of
  deed_count = by_halt v.hart.halt

after_deed : (v : LeafValue) (d : Deed) → IsCountedDeed (register_count v.hart) d → register_count (leaf_after_deed v d).hart ≡ register_count v.hart
after_deed v (has_halted cause) counted = refl
after_deed v (waits_for x) counted = refl
after_deed v (halts cause) counted = refl
after_deed v (completes c) counted = counted
after_deed v (fetches x state way) counted = refl
after_deed v (upgrades x words) counted = refl
after_deed v finds_buffer_full counted = refl

leaf_count : (code : List CodeWord) (items : ItemTable) (now : Key) (victim : ℕ) (v : LeafValue) → register_count (leaf_step code items now victim v).leaf.hart ≡ register_count v.hart
unfolding leaf_step
leaf_count code items now victim v = after_deed v (deed_of code items victim v) (deed_count code items victim v)

-- ---- a turn

abbrev kept_registers : Kept → Bool
kept_registers (leaf_kept number sizes hart done) = nat_eq (length hart.registers) 32
kept_registers (dir_kept bus level sizes count epoch ns) = have_registers_among 32 ns

abbrev all_kept : List Kept → Bool
all_kept [] = true
all_kept (k ∷ ks) = kept_registers k && all_kept ks

node_registers : (k : Node) → have_registers 32 k ≡ kept_registers (kept_of k)
node_registers (leaf_node v) = refl
node_registers (dir_node d ns) = refl

nodes_registers : (ks : List Node) → have_registers_among 32 (nodes ks) ≡ all_kept (map kept_of ks)
nodes_registers [] = refl
nodes_registers (k ∷ ks) = ap (λ b. b && have_registers_among 32 (nodes ks)) (node_registers k) ∙ ap (λ b. kept_registers (kept_of k) && b) (nodes_registers ks)

after_step : (code : List CodeWord) (items : ItemTable) (t : Turn) (w : Where) (k : Node) → have_registers 32 k ≡ true → have_registers 32 (node_after code items t w k) ≡ true
after_step code items t w (leaf_node v) all = ap (λ n. nat_eq n 32) (leaf_count code items (key_at_leaf w v.done) (victim_of t) v) ∙ all
after_step code items t w (dir_node d ns) all =
    let keeps = bus_step-keeps (stamp_above w) d (children ns) (bus_turn_of t) in
    nodes_registers (bus_step (stamp_above w) (bus_turn_of t) d (children ns)).kids ∙ ap all_kept keeps.kids
    ∙ sym (nodes_registers (children ns)) ∙ ap (have_registers_among 32) (nodes-children ns) ∙ all

root_registers : (t : Turn) (m : MachineValue) (a : TurnAnswer) → turn_answer t m ≡ Some a → have_registers 32 (root_of m) ≡ true → have_registers 32 (turn_root t m) ≡ true
root_registers t m a some =
    let at = turned (named_by t) (answer_here m.code m.items t) (node_after m.code m.items t) a at_top (root_of m) some in
    changed-keeps (TurnsHere t m a) (λ j k. have_registers 32 j ≡ true → have_registers 32 k ≡ true) (λ ns ms. have_registers_among 32 ns ≡ true → have_registers_among 32 ms ≡ true)
    (λ w j k r all. rw r.becomes (after_step m.code m.items t w j all))
    (λ d ns ms kept all. kept all)
    (λ j k ns kept all. and-both _ _ (kept (and-first _ (have_registers_among 32 ns) all)) (and-second (have_registers 32 j) _ all))
    (λ j ns ms kept all. and-both _ _ (and-first _ (have_registers_among 32 ns) all) (kept (and-second (have_registers 32 j) _ all)))
    at_top at.0 (root_of m) (turn_root t m) at.1

pub turn_registers : (t : Turn) (m : MachineValue) → have_registers 32 (root_of m) ≡ true → have_registers 32 (root_of (turn_of t m).machine) ≡ true
turn_registers t m all =
    elim (turn_answer t m) as (λ o. turn_answer t m ≡ o → have_registers 32 (root_of (turn_of t m).machine) ≡ true) [
      | None ↦ λ none. subst (λ o. have_registers 32 (root_of o.machine) ≡ true) (sym (turn-unanswered t m none)) all
      | Some a ↦ λ some. subst (λ k. have_registers 32 k ≡ true) (sym (turn-root t m a some)) (root_registers t m a some all)
    ] refl
