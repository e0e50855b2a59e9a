-- A turn completes an SC as failed exactly where it comes to one without its reservation; with it the SC stores, or its item is asked for.
-- Letters: t is a turn, m a machine, n a node, v a leaf, d a directory, e an entry, x an item.
use Rattle.std.proofs.Common.{◌≡◌, ℕ, ◌%◌, Bool, true, false, not, ◌||◌, List, Option, Some, None, refl, ap, ◌∙◌}
use Rattle.std.specs.Prelude.{is_some, option_map, unwrap_or, if◌then◌else◌}
use Rattle.lr_sc_laws.specs.DdmTypes.declared.answers.TurnAnswer.{TurnAnswer}
use Rattle.lr_sc_laws.specs.DdmTypes.declared.keys.Key.{Key}
use Rattle.lr_sc_laws.specs.DdmTypes.declared.operations.HaltCause.{HaltCause}
use Rattle.lr_sc_laws.specs.DdmTypes.declared.sizes.LeafState.{LeafState}
use Rattle.lr_sc_laws.specs.DdmTypes.declared.turns.Turn.{Turn}
use Rattle.lr_sc_laws.specs.DdmTypes.CodeMap.{CodeWord}
use Rattle.lr_sc_laws.specs.DdmTypes.ItemTable.{ItemTable}
use Rattle.lr_sc_laws.specs.FlatModel.declared.Ask.{Ask}
use Rattle.lr_sc_laws.specs.FlatModel.Flat.{change_by, has_reserved}
use Rattle.lr_sc_laws.specs.FlatModel.Hart.{Action, Halts, Computes, Puts, Loads, Stores, Reserves, StoresIfReserved, Changes, action_of, ask_by, ask_of, finish_by, finish_of}
use Rattle.tree_model.specs.State.Values.{LeafValue, Node, leaf_node, dir_node, children, MachineValue, root_of}
use Rattle.tree_model.specs.State.Leaf.{LeafEntry, leaf_entry, free_way, waiting_item, buffer_full}
use Rattle.tree_model.specs.State.Place.{Where, at_top, stamp_above, key_at_leaf}
use Rattle.tree_model.specs.Turns.Bus.{bus_judged, bus_step}
use Rattle.tree_model.specs.Turns.Grant.{Judged, nothing_there, refused, granted, bus_answer}
use Rattle.tree_model.specs.Turns.HartTurn.{need_in_state, need_to_read, need_to_write, need_of, words_here, change_here, deed_of_change, replaces, deed_to_fetch, deed_by_need, deed_unless_waiting, deed_unless_halted, deed_of, answer_of_deed, leaf_step}
use Rattle.tree_model.specs.Turns.Machine.{named_by, bus_turn_of, victim_of, answer_here, turn_answer, turn_root, turned_by, turn_of}
use Rattle.lr_sc_laws.proofs.BusyLaws.Turns.{read-same}
use Rattle.lr_sc_laws.specs.Failing.{sc_failed, is_unreserved, fails_here, LeafFailsUnreserved, TurnFailsUnreserved}

-- ---- a hart

module _ (code : List CodeWord) (items : ItemTable) (now : Key) (victim : ℕ) (v : LeafValue) where
  -- what an instruction of this kind completes as
  completes-by : (act : Action) → sc_failed (answer_of_deed now v (deed_of_change (change_by (ask_by act) v.reservation (finish_by act v.hart) (words_here v) true))) ≡ is_unreserved (ask_by act) v.reservation
  completes-by (Halts cause) = refl
  completes-by (Computes after) = refl
  completes-by (Puts byte after) = refl
  completes-by (Loads op rd a) = refl
  completes-by (Stores op w a) = refl
  completes-by (Reserves rd a) = refl
  completes-by (StoresIfReserved rd w a) = by_reserved (has_reserved v.reservation a.item) refl where
    by_reserved : (b : Bool) → has_reserved v.reservation a.item ≡ b → sc_failed (answer_of_deed now v (deed_of_change (change_by (ask_by (StoresIfReserved rd w a)) v.reservation (finish_by (StoresIfReserved rd w a) v.hart) (words_here v) true))) ≡ not (has_reserved v.reservation a.item)
    by_reserved true has = rw has refl
    by_reserved false has = rw has refl
  completes-by (Changes op rd w a) = refl

  completes : sc_failed (answer_of_deed now v (deed_of_change (change_here code items v))) ≡ is_unreserved (ask_of code items v.hart) v.reservation
  unfolding change_here ask_of finish_of
  completes = completes-by (action_of code items v.hart)

  fetches-on : (x : ℕ) (state : LeafState) (way : Option ℕ) → sc_failed (answer_of_deed now v (deed_to_fetch x state victim v way)) ≡ false
  fetches-on x state (Some way) = refl
  fetches-on x state None = by_full (buffer_full v) where
    by_full : (b : Bool) → sc_failed (answer_of_deed now v (replaces x state (victim % v.sizes.way_count) b)) ≡ false
    by_full true = refl
    by_full false = refl

  -- an instruction that doesn't fail where it completes fails nowhere
  module _ (ends : sc_failed (answer_of_deed now v (deed_of_change (change_here code items v))) ≡ false) where
    to-read : (x : ℕ) (e : Option LeafEntry) → sc_failed (answer_of_deed now v (deed_by_need code items victim v (need_to_read x e))) ≡ false
    to-read x None = fetches-on x LeafState.Reading (free_way v.sizes x v.ways)
    to-read x (Some e) = ends

    in-state : (x : ℕ) (words : List ℕ) (state : LeafState) → sc_failed (answer_of_deed now v (deed_by_need code items victim v (need_in_state x words state))) ≡ false
    in-state x words LeafState.Exclusive = ends
    in-state x words LeafState.Shared = refl
    in-state x words LeafState.Waiting = refl
    in-state x words LeafState.Reading = refl
    in-state x words LeafState.ReadingWaiting = refl

    to-write : (x : ℕ) (e : Option LeafEntry) → sc_failed (answer_of_deed now v (deed_by_need code items victim v (need_to_write x e))) ≡ false
    to-write x None = fetches-on x LeafState.ReadingWaiting (free_way v.sizes x v.ways)
    to-write x (Some e) = in-state x e.words e.state

  by-ask : (a : Ask) → ask_of code items v.hart ≡ a → sc_failed (answer_of_deed now v (deed_by_need code items victim v (need_of a v))) ≡ is_unreserved a v.reservation
  by-ask a is = go a (completes ∙ ap (λ k. is_unreserved k v.reservation) is) where
    go : (k : Ask) → sc_failed (answer_of_deed now v (deed_of_change (change_here code items v))) ≡ is_unreserved k v.reservation → sc_failed (answer_of_deed now v (deed_by_need code items victim v (need_of k v))) ≡ is_unreserved k v.reservation
    go Ask.Plain ends = ends
    go (Ask.Put byte) ends = ends
    go (Ask.NeedsShared x lr) ends = to-read ends x (leaf_entry x v)
    go (Ask.NeedsExclusive x) ends = to-write ends x (leaf_entry x v)
    go (Ask.Conditional x) ends = by_reserved (has_reserved v.reservation x) refl where
      by_reserved : (b : Bool) → has_reserved v.reservation x ≡ b → sc_failed (answer_of_deed now v (deed_by_need code items victim v (need_of (Ask.Conditional x) v))) ≡ not (has_reserved v.reservation x)
      by_reserved true has = rw has (to-write (ends ∙ ap not has) x (leaf_entry x v))
      by_reserved false has = rw has (ends ∙ ap not has)
    go (Ask.Halt cause) ends = ends

  by-waiting : (o : Option ℕ) → sc_failed (answer_of_deed now v (deed_unless_waiting code items victim v o)) ≡ (if is_some o then false else is_unreserved (ask_of code items v.hart) v.reservation)
  by-waiting (Some x) = refl
  by-waiting None = by-ask (ask_of code items v.hart) refl

  by-halt : (o : Option HaltCause) → sc_failed (answer_of_deed now v (deed_unless_halted code items victim v o)) ≡ (if is_some o || is_some (waiting_item v.ways v.buffer) then false else is_unreserved (ask_of code items v.hart) v.reservation)
  by-halt (Some cause) = refl
  by-halt None = by-waiting (waiting_item v.ways v.buffer)

pub leaf-fails : LeafFailsUnreserved
unfolding leaf_step deed_of
leaf-fails code items now victim v = by-halt code items now victim v v.hart.halt

-- ---- a turn of the machine

never-granted : (bus : ℕ) (j : Judged) → sc_failed (bus_answer bus j) ≡ false
never-granted bus nothing_there = refl
never-granted bus (refused cause) = refl
never-granted bus (granted g) = refl

here : (code : List CodeWord) (items : ItemTable) (t : Turn) (w : Where) (n : Node) → sc_failed (answer_here code items t w n) ≡ fails_here code items w n
unfolding bus_step
here code items t w (leaf_node v) = leaf-fails code items (key_at_leaf w v.done) (victim_of t) v
here code items t w (dir_node d ns) = never-granted d.bus (bus_judged (stamp_above w) d (children ns) (bus_turn_of t))

answered : (o : Option TurnAnswer) (root : Node) (m : MachineValue) → sc_failed (turned_by o root m).answer ≡ unwrap_or (option_map sc_failed o) false
answered None root m = refl
answered (Some a) root m = refl

pub turn-fails : TurnFailsUnreserved
unfolding turn_of
turn-fails t m =
    answered (turn_answer t m) (turn_root t m) m
    ∙ ap (λ o. unwrap_or o false) (read-same (named_by t) (answer_here m.code m.items t) sc_failed (fails_here m.code m.items) (here m.code m.items t) at_top (root_of m))
