-- A hart that is known to have halted, or to wait for an item, rests by what its leaf tells, and does so after a grant that may not have
-- answered that item.
-- Letters: v is a leaf, i why its hart is idle, x an item that was granted, y one that is waited for, o the one that may have been
-- answered, n and m nodes.
use Rattle.std.proofs.Common.{◌≡◌, ℕ, Bool, true, false, List, Option, Some, None, refl, sym, ap, ◌∙◌, true≢false}
use Rattle.std.specs.Prelude.{Result, Ok, Err, option_map, if◌then◌else◌}
use Rattle.std.proofs.lemmas.Bool.{eq-eqb}
use native.Mathlib.Decide.{ℕ_discrete}
use Rattle.ddm_tree.specs.DdmTypes.declared.answers.LogEntry.{LogEntry}
use Rattle.ddm_tree.specs.DdmTypes.declared.answers.TurnAnswer.{TurnAnswer}
use Rattle.ddm_tree.specs.DdmTypes.declared.operations.HaltCause.{HaltCause}
use Rattle.ddm_tree.specs.DdmTypes.declared.sizes.LeafState.{LeafState}
use Rattle.ddm_tree.specs.DdmTypes.declared.keys.Key.{Key}
use Rattle.ddm_tree.specs.DdmTypes.CodeMap.{CodeWord}
use Rattle.ddm_tree.specs.DdmTypes.ItemTable.{ItemTable}
use Rattle.ddm_tree.specs.FlatModel.declared.Ask.{Ask}
use Rattle.ddm_tree.specs.FlatModel.Flat.{Change, has_reserved}
use Rattle.ddm_tree.specs.FlatModel.Hart.{ask_of}
use Rattle.ddm_tree.specs.TreeModel.State.States.{is_waiting}
use Rattle.ddm_tree.specs.TreeModel.State.Values.{LeafValue, Node, leaf_node, dir_node}
use Rattle.ddm_tree.specs.TreeModel.State.Leaf.{LeafEntry, buffer_full, entry_state, free_way, leaf_entry, waiting_item}
use Rattle.ddm_tree.specs.TreeModel.Turns.HartTurn.{Need, no_need, a_copy, no_other_copy, time, answer_of_deed, change_here, deed_by_need, deed_of, deed_of_change, deed_to_fetch, deed_unless_halted, deed_unless_waiting, leaf_after_deed, leaf_step, need_in_state, need_of, need_to_read, need_to_write, replaces}
use Rattle.ddm_tree.specs.TreeRules.Bus.Own.{state_waits}
use Rattle.ddm_tree.proofs.BusLaws.HartFacts.{waiting-none}
use Rattle.ddm_tree.specs.declared.idle.Idle.{Idle}
use Rattle.ddm_tree.specs.Idle.{IsIdle, answered_by, answers_none, idle_answer, may_change, node_rests, rests_by}
use Rattle.ddm_tree.proofs.Untold.{IsUntold, node_halts, node_waits}

-- ---- where nothing waits, no instruction needs time

module _ (v : LeafValue) (none : waiting_item v.ways v.buffer ≡ None) where
  state-timeless : (x : ℕ) (words : List ℕ) (s : LeafState) → is_waiting s ≡ false → (y : ℕ) → need_in_state x words s ≡ time y → ⊥
  state-timeless x words LeafState.Exclusive awake y is = cc
  state-timeless x words LeafState.Shared awake y is = cc
  state-timeless x words LeafState.Waiting awake y is = true≢false awake
  state-timeless x words LeafState.Reading awake y is = true≢false awake
  state-timeless x words LeafState.ReadingWaiting awake y is = true≢false awake

  entry-awake : (x : ℕ) (e : LeafEntry) → leaf_entry x v ≡ Some e → is_waiting e.state ≡ false
  entry-awake x e at =
      let waits : state_waits (option_map entry_state (leaf_entry x v)) ≡ false = waiting-none v.ways v.buffer none x in
      rw at at waits

  read-timeless : (x : ℕ) (o : Option LeafEntry) (y : ℕ) → need_to_read x o ≡ time y → ⊥
  read-timeless x None y is = cc
  read-timeless x (Some e) y is = cc

  write-timeless : (x : ℕ) (o : Option LeafEntry) → leaf_entry x v ≡ o → (y : ℕ) → need_to_write x o ≡ time y → ⊥
  write-timeless x None at y is = cc
  write-timeless x (Some e) at y is = state-timeless x e.words e.state (entry-awake x e at) y is

  need-timeless : (a : Ask) (y : ℕ) → need_of a v ≡ time y → ⊥
  need-timeless Ask.Plain y is = cc
  need-timeless (Ask.Put byte) y is = cc
  need-timeless (Ask.NeedsShared x lr) y is = read-timeless x (leaf_entry x v) y is
  need-timeless (Ask.NeedsExclusive x) y is = write-timeless x (leaf_entry x v) refl y is
  need-timeless (Ask.Conditional x) y is = by (has_reserved v.reservation x) refl
    where
      by : (b : Bool) → has_reserved v.reservation x ≡ b → ⊥
      by true e = write-timeless x (leaf_entry x v) refl y (rw e at is)
      by false e =
          let needless : no_need ≡ time y = rw e at is in
          cc
  need-timeless (Ask.Halt cause) y is = cc

-- ---- what a turn tells of a hart that halted or waits

abbrev told_by : TurnAnswer → Option Idle
told_by (TurnAnswer.Retired op) = None
told_by (TurnAnswer.Issued kind x) = None
told_by (TurnAnswer.Waiting x) = Some (Idle.Waits x)
told_by (TurnAnswer.Halted cause) = Some (Idle.Halted cause)
told_by (TurnAnswer.Granted entry) = None
told_by TurnAnswer.Empty = None
told_by (TurnAnswer.Busy cause) = None

told-back : (o : Option ℕ) (i : Idle) → may_change (Some i) o ≡ false → told_by (idle_answer i) ≡ Some i
told-back o (Idle.Waits y) stays = refl
told-back o (Idle.BufferFull leaf) stays = absurd (true≢false stays)
told-back o (Idle.Halted cause) stays = refl

module _ (code : List CodeWord) (items : ItemTable) (now : Key) (victim : ℕ) (v : LeafValue) (i : Idle) where
  -- the hart goes on: its turn tells nothing of the kind, or halts it
  change-goes_on : (o : Result Change HaltCause) → told_by (answer_of_deed now v (deed_of_change o)) ≡ Some i → leaf_after_deed v (deed_of_change o) ≡ v → v.hart.halt ≡ None → ⊥
  change-goes_on (Ok c) says leaves halt = cc
  change-goes_on (Err cause) says leaves halt =
      let halted : Some cause ≡ v.hart.halt = ap (λ u. u.hart.halt) leaves in
      cc

  replaces-goes_on : (x : ℕ) (state : LeafState) (way : ℕ) (full : Bool) → told_by (answer_of_deed now v (replaces x state way full)) ≡ Some i → ⊥
  replaces-goes_on x state way true says = cc
  replaces-goes_on x state way false says = cc

  fetch-goes_on : (x : ℕ) (state : LeafState) (way : Option ℕ) → told_by (answer_of_deed now v (deed_to_fetch x state victim v way)) ≡ Some i → ⊥
  fetch-goes_on x state (Some way) says = cc
  fetch-goes_on x state None says = replaces-goes_on x state _ (buffer_full v) says

  need-goes_on : (n : Need) → ((y : ℕ) → n ≡ time y → ⊥) → told_by (answer_of_deed now v (deed_by_need code items victim v n)) ≡ Some i → leaf_after_deed v (deed_by_need code items victim v n) ≡ v → v.hart.halt ≡ None → ⊥
  need-goes_on no_need timeless says leaves halt = change-goes_on (change_here code items v) says leaves halt
  need-goes_on (a_copy x state) timeless says leaves halt = fetch-goes_on x state (free_way v.sizes x v.ways) says
  need-goes_on (no_other_copy x words) timeless says leaves halt = cc
  need-goes_on (time x) timeless says leaves halt = timeless x refl

  waiting-rests : (waiting : Option ℕ) → waiting_item v.ways v.buffer ≡ waiting → told_by (answer_of_deed now v (deed_unless_waiting code items victim v waiting)) ≡ Some i → leaf_after_deed v (deed_unless_waiting code items victim v waiting) ≡ v → v.hart.halt ≡ None → rests_by None waiting ≡ Some i
  waiting-rests (Some x) is says leaves halt = says
  waiting-rests None is says leaves halt = absurd (need-goes_on (need_of (ask_of code items v.hart) v) (need-timeless v is (ask_of code items v.hart)) says leaves halt)

  halted-rests : (halt : Option HaltCause) → v.hart.halt ≡ halt → told_by (answer_of_deed now v (deed_unless_halted code items victim v halt)) ≡ Some i → leaf_after_deed v (deed_unless_halted code items victim v halt) ≡ v → rests_by halt (waiting_item v.ways v.buffer) ≡ Some i
  halted-rests (Some cause) is says leaves = says
  halted-rests None is says leaves = waiting-rests (waiting_item v.ways v.buffer) refl says leaves is

  -- a leaf of which each turn answers so, and leaves it as it is, tells so
  step-rests : (o : Option ℕ) → may_change (Some i) o ≡ false → leaf_step code items now victim v ≡ record { answer = idle_answer i; leaf = v } → node_rests (leaf_node v) ≡ Some i
  unfolding leaf_step deed_of
  step-rests o stays is = halted-rests v.hart.halt refl (ap (λ r. told_by r.answer) is ∙ told-back o i stays) (ap (λ r. r.leaf) is)

-- ---- what a node tells after a grant that may have answered another item

rests-parts : (n : Node) → node_rests n ≡ rests_by (node_halts n) (node_waits n)
rests-parts (leaf_node v) = refl
rests-parts (dir_node d ns) = refl

-- of the second node it is what it was of the first, where that waits for an item that may not have been answered
pub record IsLasting (o : Option ℕ) (n m : Node) : Type 0 where
  pub halts : node_halts m ≡ node_halts n
  pub waits : (y : ℕ) → may_change (Some (Idle.Waits y)) o ≡ false → node_waits n ≡ Some y → node_waits m ≡ Some y

-- a grant may have answered whoever waits for its item, or nobody
lasting-by : (x : ℕ) (n m : Node) (none : Bool) → IsUntold x n m → (none ≡ true → node_waits n ≡ Some x → node_waits m ≡ Some x) → IsLasting (if none then None else Some x) n m
lasting-by x n m true untold still = record { halts = untold.halts; waits = λ y stays is. by y (ℕ_discrete y x) is }
  where
    by : (y : ℕ) → Dec (y ≡ x) → node_waits n ≡ Some y → node_waits m ≡ Some y
    by y (yes same) is = still refl (is ∙ ap Some same) ∙ ap Some (sym same)
    by y (no other) is = untold.waits y other is
lasting-by x n m false untold still = record { halts = untold.halts; waits = λ y stays is. untold.waits y (λ same. true≢false (sym (eq-eqb y x same) ∙ stays)) is }

pub lasting : (entry : LogEntry) (n m : Node) → IsUntold entry.item n m → (answers_none entry.kind ≡ true → node_waits n ≡ Some entry.item → node_waits m ≡ Some entry.item) → IsLasting (answered_by entry) n m
lasting entry n m untold still = lasting-by entry.item n m (answers_none entry.kind) untold still

module _ (o : Option ℕ) where
  waits-still : (n m : Node) (i : Idle) (waiting : Option ℕ) → IsLasting o n m → may_change (Some i) o ≡ false → node_waits n ≡ waiting → rests_by None waiting ≡ Some i → rests_by None (node_waits m) ≡ Some i
  waits-still n m i None last stays is rests = cc
  waits-still n m i (Some y) last stays is rests =
      let same : Idle.Waits y ≡ i = cc in
      rw (last.waits y (ap (λ k. may_change (Some k) o) same ∙ stays) is) rests

  rests-still : (n m : Node) (i : Idle) (halt : Option HaltCause) → IsLasting o n m → may_change (Some i) o ≡ false → node_halts n ≡ halt → rests_by halt (node_waits n) ≡ Some i → rests_by halt (node_waits m) ≡ Some i
  rests-still n m i (Some cause) last stays is rests = rests
  rests-still n m i None last stays is rests = waits-still n m i (node_waits n) last stays refl rests

  pub lasting-rests : (n m : Node) (i : Idle) → IsLasting o n m → may_change (Some i) o ≡ false → node_rests n ≡ Some i → node_rests m ≡ Some i
  lasting-rests n m i last stays rests = rests-parts m ∙ ap (λ h. rests_by h (node_waits m)) last.halts ∙ rests-still n m i (node_halts n) last stays refl (sym (rests-parts n) ∙ rests)

-- an idle hart's leaf tells that it has halted or waits
pub idle-rests : (code : List CodeWord) (items : ItemTable) (now : Key) (o : Option ℕ) (v : LeafValue) (i : Idle) (n : Node) → n ≡ leaf_node v → may_change (Some i) o ≡ false → IsIdle code items i n → node_rests n ≡ Some i
idle-rests code items now o v i n is stays idle = ap node_rests is ∙ step-rests code items now 0 v i o stays (idle.each v now 0 is)
