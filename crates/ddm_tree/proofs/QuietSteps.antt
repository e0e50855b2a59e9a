-- A turn of a bus that finds nothing changes nothing, and a turn of a hart that asks for nothing shows the bus no more than before.
use Rattle.std.proofs.Common.{◌≡◌, ℕ, ◌%◌, ◌<◌, Bool, true, false, List, [], ◌∷◌, length, Option, Some, None, Result, Ok, Err, refl, ap, subst, ◌∙◌, mod-lt, arith}
use Rattle.std.specs.Prelude.{is_none, filter, find, option_map, if◌then◌else◌}
use Rattle.std.proofs.lemmas.Option.{slice_get-get_or}
use Rattle.ddm_tree.specs.DdmTypes.declared.answers.TurnAnswer.{TurnAnswer}
use Rattle.ddm_tree.specs.DdmTypes.declared.keys.Key.{Key}
use Rattle.ddm_tree.specs.DdmTypes.declared.keys.Stamp.{Stamp}
use Rattle.ddm_tree.specs.DdmTypes.declared.operations.HaltCause.{HaltCause}
use Rattle.ddm_tree.specs.DdmTypes.declared.sizes.LeafState.{LeafState}
use Rattle.ddm_tree.specs.DdmTypes.declared.turns.Turn.{Turn}
use Rattle.ddm_tree.specs.DdmTypes.CodeMap.{CodeWord}
use Rattle.ddm_tree.specs.DdmTypes.ItemTable.{ItemTable}
use Rattle.ddm_tree.specs.FlatModel.declared.Ask.{Ask}
use Rattle.ddm_tree.specs.FlatModel.Hart.{Finished, ask_of, finish_of}
use Rattle.ddm_tree.specs.FlatModel.Flat.{Change, Stored, change_by, conditional, has_reserved}
use Rattle.ddm_tree.specs.TreeModel.declared.BusTurn.{BusTurn}
use Rattle.ddm_tree.specs.TreeModel.State.Child.{child_request, child_reply, child_leaving}
use Rattle.ddm_tree.specs.TreeModel.State.Directory.{dir_leaving}
use Rattle.ddm_tree.specs.TreeModel.State.Leaf.{LeafEntry, becomes, buffer_after, buffer_entry, buffer_item, buffered, copy_item, entry_at, entry_state, is_buffered, leaf_entry, leaf_leaving, may_leave_buffer, state_at, waiting_item, way_at, buffer_full, free_way}
use Rattle.ddm_tree.specs.TreeModel.State.Lists.{chosen, first_of}
use Rattle.ddm_tree.specs.TreeModel.State.Values.{BufferValue, CopyValue, DirValue, DownValue, LeafValue, Node, Nodes, RequestValue, WayValue, leaf_node, dir_node, children}
use Rattle.ddm_tree.specs.TreeModel.Turns.Bus.{bus_judged, bus_step, leave_turn, reply_turn, request_turn}
use Rattle.ddm_tree.specs.TreeModel.Turns.Children.{child_at}
use Rattle.ddm_tree.specs.TreeModel.Turns.Down.{down_turn}
use Rattle.ddm_tree.specs.TreeModel.Turns.Grant.{nothing_there, outcome_of}
use Rattle.ddm_tree.specs.TreeModel.Turns.HartTurn.{Deed, has_halted, waits_for, halts, completes, fetches, upgrades, finds_buffer_full, Need, no_need, a_copy, no_other_copy, time, answer_of_deed, buffer_stored, change_here, deed_by_need, deed_of, deed_of_change, deed_to_fetch, deed_unless_halted, deed_unless_waiting, leaf_after_deed, leaf_step, need_in_state, need_of, need_to_write, replaces, words_here}
use Rattle.ddm_tree.specs.TreeModel.Turns.Machine.{bus_turn_of, outcome_node}
use Rattle.ddm_tree.proofs.TreeModel.Children.{nodes-children}
use Rattle.ddm_tree.specs.Path.{node_answer, node_turned}
use Rattle.ddm_tree.specs.Quiet.{KeepsQuiet, finds_nothing, touches}

-- ---- a turn of a bus that finds nothing

module _ (above : Stamp) (d : DirValue) (ns : List Node) where
  no-entry : (entries : List DownValue) → is_none (first_of entries) ≡ true → down_turn d ns entries ≡ nothing_there
  no-entry [] e = refl
  no-entry (entry ∷ entries) e = cc

  no-request : (c : ℕ) (o : Option RequestValue) → is_none o ≡ true → request_turn above d ns c o ≡ nothing_there
  no-request c None e = refl
  no-request c (Some r) e = cc

  no-reply : (c : ℕ) (o : Option CopyValue) → is_none o ≡ true → reply_turn above d ns c o ≡ nothing_there
  no-reply c None e = refl
  no-reply c (Some r) e = cc

  no-leaving : (c : ℕ) (o : Option ℕ) → is_none o ≡ true → leave_turn above d ns c o ≡ nothing_there
  no-leaving c None e = refl
  no-leaving c (Some x) e = cc

nothing-judged : (above : Stamp) (t : BusTurn) (d : DirValue) (ns : Nodes) → finds_nothing t (dir_node d ns) ≡ true → bus_judged above d (children ns) t ≡ nothing_there
nothing-judged above BusTurn.Down d ns e = no-entry above d (children ns) d.down e
nothing-judged above (BusTurn.Request c) d ns e = no-request above d (children ns) c (child_request (child_at c (children ns))) e
nothing-judged above (BusTurn.Reply c) d ns e = no-reply above d (children ns) c (child_reply (child_at c (children ns))) e
nothing-judged above (BusTurn.Leave c choice) d ns e = no-leaving above d (children ns) c (child_leaving choice (child_at c (children ns))) e

pub nothing-found : (above : Stamp) (t : BusTurn) (d : DirValue) (ns : Nodes) → finds_nothing t (dir_node d ns) ≡ true
    → bus_step above t d (children ns) ≡ outcome_of d (children ns) nothing_there
unfolding bus_step
nothing-found above t d ns e = ap (outcome_of d (children ns)) (nothing-judged above t d ns e)

pub nothing-turned : (code : List CodeWord) (items : ItemTable) (t : Turn) (path : List ℕ) (present : Stamp) (n : Node)
    → finds_nothing (bus_turn_of t) n ≡ true
    → (node_answer code items t path present n ≡ TurnAnswer.Empty) × (node_turned code items t path present n ≡ n)
nothing-turned code items t path present (leaf_node v) e = cc
nothing-turned code items t path present (dir_node d ns) e =
    let found = nothing-found present (bus_turn_of t) d ns e in
    (ap (λ o. o.answer) found, ap (outcome_node code items t) found ∙ ap (dir_node d) (nodes-children ns))

-- ---- where nothing leaves, nothing leaves at another choice

module _ {X : Type 0} (item : X → ℕ) where
  chosen-none : (choice : ℕ) (xs : List X) → is_none (chosen item choice xs) ≡ true → xs ≡ []
  chosen-none choice [] e = refl
  chosen-none choice (x ∷ xs) e =
      let place = choice % length (x ∷ xs) in
      let within : place < length (x ∷ xs) = mod-lt choice (omega arith) in
      let got = slice_get-get_or (x ∷ xs) place x within in
      let wrong : false ≡ true = rw got at e in
      cc

  chosen-other : (choice : ℕ) (xs : List X) → is_none (chosen item 0 xs) ≡ true → is_none (chosen item choice xs) ≡ true
  chosen-other choice xs e = ap (λ ys. is_none (chosen item choice ys)) (chosen-none 0 xs e)

pub no-choice : (n : Node) → is_none (child_leaving 0 n) ≡ true → (choice : ℕ) → is_none (child_leaving choice n) ≡ true
unfolding leaf_leaving dir_leaving
no-choice (leaf_node v) e choice = chosen-other buffer_item choice (filter may_leave_buffer v.buffer) e
no-choice (dir_node d ns) e choice = chosen-other copy_item choice d.parked e

-- ---- a turn of a hart stores only to an item that it holds Exclusive

module _ (v : LeafValue) where
  -- what is stored to stands Exclusive
  abbrev IsOwned : Option Stored → Type 0
  IsOwned None = Unit {0}
  IsOwned (Some s) = state_at s.item v ≡ Some LeafState.Exclusive

  abbrev ResultOwned : Result Change HaltCause → Type 0
  ResultOwned (Ok c) = IsOwned c.stored
  ResultOwned (Err cause) = Unit {0}

  abbrev DeedOwned : Deed → Type 0
  DeedOwned (has_halted cause) = Unit {0}
  DeedOwned (waits_for x) = Unit {0}
  DeedOwned (halts cause) = Unit {0}
  DeedOwned (completes c) = IsOwned c.stored
  DeedOwned (fetches x state way) = Unit {0}
  DeedOwned (upgrades x words) = Unit {0}
  DeedOwned finds_buffer_full = Unit {0}

  state-owned : (x : ℕ) (words : List ℕ) (state : LeafState) → need_in_state x words state ≡ no_need → state ≡ LeafState.Exclusive
  state-owned x words LeafState.Exclusive need = refl
  state-owned x words LeafState.Shared need = cc
  state-owned x words LeafState.Waiting need = cc
  state-owned x words LeafState.Reading need = cc
  state-owned x words LeafState.ReadingWaiting need = cc

  entry-owned : (x : ℕ) (o : Option LeafEntry) → need_to_write x o ≡ no_need → option_map entry_state o ≡ Some LeafState.Exclusive
  entry-owned x None need = cc
  entry-owned x (Some e) need = ap Some (state-owned x e.words e.state need)

  conditional-owned : (x : ℕ) (finish : Bool → Finished) (b : Bool) → (if b then need_to_write x (leaf_entry x v) else no_need) ≡ no_need → IsOwned (conditional b x finish).stored
  conditional-owned x finish true need = entry-owned x (leaf_entry x v) need
  conditional-owned x finish false need = tt

  change-owned : (ask : Ask) (finish : List ℕ → Bool → Finished) (words : ℕ → List ℕ) → need_of ask v ≡ no_need → ResultOwned (change_by ask v.reservation finish words true)
  change-owned Ask.Plain finish words need = tt
  change-owned (Ask.Put byte) finish words need = tt
  change-owned (Ask.NeedsShared x lr) finish words need = tt
  change-owned (Ask.NeedsExclusive x) finish words need = entry-owned x (leaf_entry x v) need
  change-owned (Ask.Conditional x) finish words need = conditional-owned x (finish (words x)) (has_reserved v.reservation x) need
  change-owned (Ask.Halt cause) finish words need = tt

  deed_of_change-owned : (r : Result Change HaltCause) → ResultOwned r → DeedOwned (deed_of_change r)
  deed_of_change-owned (Ok c) owned = owned
  deed_of_change-owned (Err cause) owned = tt

  module _ (code : List CodeWord) (items : ItemTable) (victim : ℕ) where
    here-owned : need_of (ask_of code items v.hart) v ≡ no_need → DeedOwned (deed_of_change (change_here code items v))
    unfolding change_here
    here-owned need = deed_of_change-owned _ (change-owned (ask_of code items v.hart) (finish_of code items v.hart) (words_here v) need)

    replaces-owned : (x : ℕ) (state : LeafState) (way : ℕ) (full : Bool) → DeedOwned (replaces x state way full)
    replaces-owned x state way true = tt
    replaces-owned x state way false = tt

    fetch-owned : (x : ℕ) (state : LeafState) (way : Option ℕ) → DeedOwned (deed_to_fetch x state victim v way)
    fetch-owned x state (Some way) = tt
    fetch-owned x state None = replaces-owned x state (victim % v.sizes.way_count) (buffer_full v)

    need-owned : (need : Need) → need_of (ask_of code items v.hart) v ≡ need → DeedOwned (deed_by_need code items victim v need)
    need-owned no_need is = here-owned is
    need-owned (a_copy x state) is = fetch-owned x state (free_way v.sizes x v.ways)
    need-owned (no_other_copy x words) is = tt
    need-owned (time x) is = tt

    waiting-owned : (o : Option ℕ) → DeedOwned (deed_unless_waiting code items victim v o)
    waiting-owned (Some x) = tt
    waiting-owned None = need-owned (need_of (ask_of code items v.hart) v) refl

    halted-owned : (o : Option HaltCause) → DeedOwned (deed_unless_halted code items victim v o)
    halted-owned (Some cause) = tt
    halted-owned None = waiting-owned (waiting_item v.ways v.buffer)

    deed-owned : DeedOwned (deed_of code items victim v)
    unfolding deed_of
    deed-owned = halted-owned v.hart.halt

-- ---- what is stored to isn't in a buffer that nothing may leave

left-first : (e : BufferValue) (es : List BufferValue) → filter may_leave_buffer (e ∷ es) ≡ [] → may_leave_buffer e ≡ false
left-first e es none =
    elim (may_leave_buffer e) as (λ b. may_leave_buffer e ≡ b → b ≡ false) [
      | true ↦ λ leaves.
          let some : e ∷ filter may_leave_buffer es ≡ [] = rw leaves at none in
          cc
      | false ↦ λ stays. refl
    ] refl

left-rest : (e : BufferValue) (es : List BufferValue) → filter may_leave_buffer (e ∷ es) ≡ [] → filter may_leave_buffer es ≡ []
left-rest e es none =
    let stays = left-first e es none in
    rw stays at none

-- an entry that is found there may not leave
found-stays : (x : ℕ) (es : List BufferValue) (e : BufferValue) → filter may_leave_buffer es ≡ [] → find (is_buffered x) es ≡ Some e → may_leave_buffer e ≡ false
found-stays x [] e none found = cc
found-stays x (f ∷ es) e none found =
    elim (is_buffered x f) as (λ b. is_buffered x f ≡ b → may_leave_buffer e ≡ false) [
      | true ↦ λ is.
          let here : Some f ≡ Some e = rw is at found in
          let same : f ≡ e = cc in
          subst (λ g. may_leave_buffer g ≡ false) same (left-first f es none)
      | false ↦ λ other. found-stays x es e (left-rest f es none) (rw other at found)
    ] refl

module _ (x : ℕ) (es : List BufferValue) (none : filter may_leave_buffer es ≡ []) where
  absent-owned : (o : Option BufferValue) → buffered x es ≡ o → option_map entry_state (option_map buffer_entry o) ≡ Some LeafState.Exclusive → ⊥
  absent-owned None found owned = cc
  absent-owned (Some e) found owned =
      let state : e.state ≡ LeafState.Exclusive = cc in
      let stays : may_leave_buffer e ≡ false = found-stays x es e none found in
      let wrong : true ≡ false = rw state at stays in
      cc

  -- so it stands in a way, and the buffer stays as it is
  owned-apart : (words : List ℕ) (ways : List (Option WayValue)) → option_map entry_state (entry_at x ways es) ≡ Some LeafState.Exclusive → buffer_after x (becomes LeafState.Exclusive words) ways es ≡ es
  unfolding entry_at
  owned-apart words ways owned =
      elim (way_at x ways) as (λ o. way_at x ways ≡ o → buffer_after x (becomes LeafState.Exclusive words) ways es ≡ es) [
        | None ↦ λ is. absurd (absent-owned (buffered x es) refl (rw is at owned))
        | Some e ↦ λ is. rw is refl
      ] refl

-- ---- a turn of a hart that asks for nothing

module _ (v : LeafValue) where
  stored-same : (o : Option Stored) → IsOwned v o → filter may_leave_buffer v.buffer ≡ [] → buffer_stored o v.ways v.buffer ≡ v.buffer
  stored-same None owned none = refl
  stored-same (Some s) owned none = owned-apart s.item v.buffer none s.words v.ways owned

  stored-leaving : (o : Option Stored) → IsOwned v o → (choice : ℕ) → is_none (leaf_leaving choice v.buffer) ≡ true → is_none (leaf_leaving choice (buffer_stored o v.ways v.buffer)) ≡ true
  unfolding leaf_leaving
  stored-leaving o owned choice e =
      let none = chosen-none buffer_item choice (filter may_leave_buffer v.buffer) e in
      ap (λ es. is_none (chosen buffer_item choice (filter may_leave_buffer es))) (stored-same o owned none) ∙ e

  deed-keeps : (now : Key) (d : Deed) → touches (answer_of_deed now v d) ≡ false → DeedOwned v d → KeepsQuiet (leaf_node v) (leaf_node (leaf_after_deed v d))
  deed-keeps now (has_halted cause) e owned = record { request = λ e. e; reply = λ e. e; leaving = λ choice e. e }
  deed-keeps now (waits_for x) e owned = record { request = λ e. e; reply = λ e. e; leaving = λ choice e. e }
  deed-keeps now (halts cause) e owned = record { request = λ e. e; reply = λ e. e; leaving = λ choice e. e }
  deed-keeps now (completes c) e owned = record { request = λ e. e; reply = λ e. e; leaving = stored-leaving c.stored owned }
  deed-keeps now (fetches x state way) e owned = cc
  deed-keeps now (upgrades x words) e owned = cc
  deed-keeps now finds_buffer_full e owned = record { request = λ e. e; reply = λ e. e; leaving = λ choice e. e }

pub hart-keeps : (code : List CodeWord) (items : ItemTable) (now : Key) (victim : ℕ) (v : LeafValue)
    → touches (leaf_step code items now victim v).answer ≡ false
    → KeepsQuiet (leaf_node v) (leaf_node (leaf_step code items now victim v).leaf)
unfolding leaf_step
hart-keeps code items now victim v e = deed-keeps v now (deed_of code items victim v) e (deed-owned v code items victim)
