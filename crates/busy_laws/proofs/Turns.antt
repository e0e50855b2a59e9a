-- A turn of the machine is busy exactly for the first of its reasons: that of its leaf's hart or of its bus.
-- Letters: t is a turn, m a machine, n a node, v a leaf, p a parent over the children ns.
use Rattle.std.proofs.Common.{◌≡◌, ℕ, ◌+◌, ◌%◌, Bool, true, false, ◌||◌, List, [], ◌∷◌, Option, Some, None, Result, Ok, Err, refl, ap, ◌∙◌}
use Rattle.std.specs.Prelude.{is_some, option_and_then, option_map, if◌then◌else◌}
use Rattle.busy_laws.specs.DdmTypes.declared.answers.BusyCause.{BusyCause}
use Rattle.busy_laws.specs.DdmTypes.declared.answers.TurnAnswer.{TurnAnswer}
use Rattle.busy_laws.specs.DdmTypes.declared.keys.Key.{Key}
use Rattle.busy_laws.specs.DdmTypes.declared.keys.Stamp.{Stamp}
use Rattle.busy_laws.specs.DdmTypes.declared.operations.HaltCause.{HaltCause}
use Rattle.busy_laws.specs.DdmTypes.declared.turns.Turn.{Turn}
use Rattle.busy_laws.specs.DdmTypes.declared.sizes.LeafState.{LeafState}
use Rattle.busy_laws.specs.DdmTypes.ItemTable.{ItemTable}
use Rattle.busy_laws.specs.DdmTypes.CodeMap.{CodeWord}
use Rattle.busy_laws.specs.FlatModel.Hart.{ask_of}
use Rattle.busy_laws.specs.FlatModel.Flat.{Change}
use Rattle.tree_model.specs.declared.BusTurn.{BusTurn}
use Rattle.tree_model.specs.State.Lists.{some_if}
use Rattle.tree_model.specs.State.Values.{LeafValue, DirValue, Node, Nodes, leaf_node, dir_node, no_nodes, more_nodes, children, MachineValue, root_of}
use Rattle.tree_model.specs.State.Leaf.{free_way, waiting_item, buffer_full}
use Rattle.tree_model.specs.State.Place.{Where, at_top, at_child, where_path, spot_in, stamp_above, key_at_leaf}
use Rattle.tree_model.specs.Turns.Grant.{Judged, nothing_there, refused, granted, bus_answer}
use Rattle.tree_model.specs.Turns.Bus.{bus_judged, bus_step}
use Rattle.tree_model.specs.Turns.HartTurn.{Need, no_need, a_copy, no_other_copy, time, need_of, Deed, deed_of_change, change_here, replaces, deed_to_fetch, deed_by_need, deed_unless_waiting, deed_unless_halted, deed_of, answer_of_deed, leaf_step}
use Rattle.tree_model.specs.Turns.Tree.{Name, is_named, has_node, read_in, read_among}
use Rattle.tree_model.specs.Turns.Machine.{named_by, bus_turn_of, victim_of, answer_here, turn_answer, turn_root, turned_by, turn_of}
use Rattle.busy_laws.specs.Reasons.{bus_reason, fetch_reason, hart_reason, reason_here, busy_cause, BusyForItsReason, EveryRunBusyForItsReasons}
use Rattle.busy_laws.proofs.Buses.{cause_of, bus-caused}

-- ---- a bus

answer-cause : (bus : ℕ) (j : Judged) → busy_cause (bus_answer bus j) ≡ cause_of j
answer-cause bus nothing_there = refl
answer-cause bus (refused cause) = refl
answer-cause bus (granted g) = refl

pub bus-step : (above : Stamp) (t : BusTurn) (p : DirValue) (ns : List Node) → busy_cause (bus_step above t p ns).answer ≡ bus_reason p ns t
unfolding bus_step
bus-step above t p ns = answer-cause p.bus (bus_judged above p ns t) ∙ bus-caused p ns above t

-- ---- a hart

module _ (code : List CodeWord) (items : ItemTable) (now : Key) (victim : ℕ) (v : LeafValue) where
  abbrev cause_at : Deed → Option BusyCause
  cause_at d = busy_cause (answer_of_deed now v d)

  completed : (r : Result Change HaltCause) → cause_at (deed_of_change r) ≡ None
  completed (Ok c) = refl
  completed (Err cause) = refl

  fetched : (x : ℕ) (state : LeafState) (way : Option ℕ) → cause_at (deed_to_fetch x state victim v way) ≡ (if is_some way then None else some_if (buffer_full v) (BusyCause.BufferFull v.number))
  fetched x state (Some way) = refl
  fetched x state None = by_full (buffer_full v) where
    by_full : (b : Bool) → cause_at (replaces x state (victim % v.sizes.way_count) b) ≡ some_if b (BusyCause.BufferFull v.number)
    by_full true = refl
    by_full false = refl

  by-need : (need : Need) → cause_at (deed_by_need code items victim v need) ≡ fetch_reason v need
  by-need no_need = completed (change_here code items v)
  by-need (a_copy x state) = fetched x state (free_way v.sizes x v.ways)
  by-need (no_other_copy x words) = refl
  by-need (time x) = refl

  abbrev idle_reason : Option BusyCause
  idle_reason = fetch_reason v (need_of (ask_of code items v.hart) v)

  by-waiting : (o : Option ℕ) → cause_at (deed_unless_waiting code items victim v o) ≡ (if is_some o then None else idle_reason)
  by-waiting (Some x) = refl
  by-waiting None = by-need (need_of (ask_of code items v.hart) v)

  by-halt : (o : Option HaltCause) → cause_at (deed_unless_halted code items victim v o) ≡ (if is_some o || is_some (waiting_item v.ways v.buffer) then None else idle_reason)
  by-halt (Some cause) = refl
  by-halt None = by-waiting (waiting_item v.ways v.buffer)

  pub leaf-step : busy_cause (leaf_step code items now victim v).answer ≡ hart_reason code items v
  unfolding leaf_step deed_of
  leaf-step = by-halt v.hart.halt

-- ---- the node that a turn names

module _ {A B : Type 0} (name : Name) (read : Where → Node → A) (f : A → B) (other : Where → Node → B) (same : (w : Where) (n : Node) → f (read w n) ≡ other w n) where
  mutual
    pub read-same : (w : Where) (n : Node) → option_map f (read_in name read w n) ≡ read_in name other w n
    read-same w (leaf_node v) = by_name (is_named name (leaf_node v)) where
      by_name : (b : Bool) → option_map f (if b then Some (read w (leaf_node v)) else None) ≡ (if b then Some (other w (leaf_node v)) else None)
      by_name true = ap (λ b. Some b) (same w (leaf_node v))
      by_name false = refl
    read-same w (dir_node d ns) = by_name (is_named name (dir_node d ns)) (among-same (where_path w) d 0 ns) where
      by_name : (b : Bool) → option_map f (read_among name read (where_path w) d 0 ns) ≡ read_among name other (where_path w) d 0 ns → option_map f (if b then Some (read w (dir_node d ns)) else read_among name read (where_path w) d 0 ns) ≡ (if b then Some (other w (dir_node d ns)) else read_among name other (where_path w) d 0 ns)
      by_name true below = ap (λ b. Some b) (same w (dir_node d ns))
      by_name false below = below

    among-same : (path : List ℕ) (d : DirValue) (i : ℕ) (ns : Nodes) → option_map f (read_among name read path d i ns) ≡ read_among name other path d i ns
    among-same path d i no_nodes = refl
    among-same path d i (more_nodes n ns) = by_there (has_node name n) (read-same (at_child (spot_in path d i)) n) (among-same path d (i + 1) ns) where
      by_there : (b : Bool) → option_map f (read_in name read (at_child (spot_in path d i)) n) ≡ read_in name other (at_child (spot_in path d i)) n → option_map f (read_among name read path d (i + 1) ns) ≡ read_among name other path d (i + 1) ns → option_map f (if b then read_in name read (at_child (spot_in path d i)) n else read_among name read path d (i + 1) ns) ≡ (if b then read_in name other (at_child (spot_in path d i)) n else read_among name other path d (i + 1) ns)
      by_there true first rest = first
      by_there false first rest = rest

here : (code : List CodeWord) (items : ItemTable) (t : Turn) (w : Where) (n : Node) → busy_cause (answer_here code items t w n) ≡ reason_here code items t w n
here code items t w (leaf_node v) = leaf-step code items (key_at_leaf w v.done) (victim_of t) v
here code items t w (dir_node d ns) = bus-step (stamp_above w) (bus_turn_of t) d (children ns)

answered : (o : Option TurnAnswer) (root : Node) (m : MachineValue) → busy_cause (turned_by o root m).answer ≡ option_and_then (λ r. r) (option_map busy_cause o)
answered None root m = refl
answered (Some a) root m = refl

pub busy-turn : BusyForItsReason
unfolding turn_of
busy-turn t m =
    answered (turn_answer t m) (turn_root t m) m
    ∙ ap (option_and_then (λ r. r)) (read-same (named_by t) (answer_here m.code m.items t) busy_cause (reason_here m.code m.items t) (here m.code m.items t) at_top (root_of m))

pub busy-run : EveryRunBusyForItsReasons
busy-run [] m = tt
busy-run (t ∷ ts) m = (busy-turn t m, busy-run ts (turn_of t m).machine)
