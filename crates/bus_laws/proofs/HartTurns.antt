-- A hart's turn keeps the rules of its leaf, and the bus sees the same of each item.
use Rattle.std.proofs.Common.{◌≡◌, ◌≢◌, ℕ, zero, suc, ◌+◌, ◌%◌, ◌<◌, ◌≤◌, Bool, true, false, List, ◌++◌, length, Option, Some, None, refl, sym, ap, subst, ◌∙◌, mod-lt, arith, inl, inr}
use Rattle.std.specs.Prelude.{not, ◌&&◌, nat_eq, nat_lt, is_none, slice_set, option_map, if◌then◌else◌}
use Rattle.std.specs.List.{All, list_all, range_with_len}
use Rattle.std.specs.Cmp.Derive.{both_true}
use Rattle.std.proofs.lemmas.List.{append-nil}
use Rattle.std.proofs.lemmas.List.Elements.{All-nil, All-cons}
use Rattle.std.proofs.lemmas.Bool.{eqb-true, eq-eqb, ne_eqb, ltb-true, lt-ltb, and_parts}
use Rattle.std.proofs.lemmas.Bool.Decides.{eqb_tells}
use Rattle.bus_laws.specs.DdmTypes.declared.answers.TxKind.{TxKind}
use Rattle.bus_laws.specs.DdmTypes.declared.answers.TxKind.TheVariants.{ReadTx, EraseTx}
use Rattle.bus_laws.specs.DdmTypes.declared.operations.HaltCause.{HaltCause}
use Rattle.bus_laws.specs.DdmTypes.declared.sizes.LeafState.{LeafState}
use Rattle.bus_laws.specs.DdmTypes.declared.keys.Key.{Key}
use Rattle.bus_laws.specs.DdmTypes.ItemTable.{ItemTable, item_count}
use Rattle.bus_laws.specs.DdmTypes.CodeMap.{CodeWord}
use Rattle.bus_laws.specs.FlatModel.declared.Ask.{Ask}
use Rattle.bus_laws.specs.FlatModel.Hart.{Finished, ask_of, finish_of}
use Rattle.bus_laws.specs.FlatModel.Flat.{Change, Stored, change_by, conditional, has_reserved, asked_item}
use Rattle.bus_laws.proofs.FlatModel.Items.{asks_inside}
use Rattle.bus_laws.specs.TreeModel.State.Kinds.{is_kind}
use Rattle.bus_laws.specs.TreeModel.State.Rooms.{leaf_within}
use Rattle.bus_laws.specs.TreeModel.State.States.{is_reading, is_upgrading, entry_hold}
use Rattle.bus_laws.specs.TreeModel.State.Values.{CopyValue, WayValue, BufferValue, LeafSizes, LeafValue}
use Rattle.bus_laws.specs.TreeModel.State.Leaf.{slot_has, blank, LeafEntry, way_at, entry_state, entry_at, leaf_entry, state_at, leaf_hold, stands_in, item_in_way, free_way, buffer_full, waiting_item, words_of_item}
use Rattle.bus_laws.specs.TreeModel.Turns.HartTurn.{Deed, has_halted, waits_for, halts, completes, fetches, upgrades, finds_buffer_full, Need, no_need, a_copy, no_other_copy, time, need_to_read, need_to_write, need_in_state, need_of, words_here, change_here, deed_of_change, replaces, deed_to_fetch, deed_by_need, deed_unless_waiting, deed_unless_halted, deed_of, ways_stored, buffer_stored, moved_entry, ways_without, moved_to_buffer, leaf_after_deed, leaf_step}
use Rattle.bus_laws.proofs.TreeModel.Children.{found-passes, none-passes}
use Rattle.bus_laws.proofs.TreeModel.HartRooms.{leaf_step-within}
use Rattle.tree_rules.specs.Bus.Faces.{ChildFace, leaf_face, in_state}
use Rattle.tree_rules.specs.Bus.Own.{copy_fits, IsLeafOk, has_ways, leaf_lists, slot_fits, leaf_replies, reservation_fits, state_waits, request_suits, slot_suits, reserves_below, are_zero}
use Rattle.tree_rules.proofs.Implying.{implies-by}
use Rattle.bus_laws.specs.KeepsLeafRules.{KeepsLeafRules}
use Rattle.bus_laws.proofs.HartFacts.{find-holds, way-within, HasEntries, entries-from_rules, waiting-none, one-waits, state_in, rules-from_entries}
use Rattle.bus_laws.proofs.HartChanges.{entry_with, entry-becomes, entry-becomes_other, entries-become, way-set_none, way-kept, entry-moved, entries-move, entry-enters, entry-enters_other, entries-enter}

-- ---- what a deed rests on

-- no entry of the leaf waits, and its slot is empty
record IsAtRest (v : LeafValue) : Type 0 where
  none_waits : (y : ℕ) → state_waits (state_at y v) ≡ false
  empty : v.slot ≡ None

at_rest : (n : ℕ) (v : LeafValue) → IsLeafOk n v → waiting_item v.ways v.buffer ≡ None → IsAtRest v
at_rest n v ok none =
    let quiet = waiting-none v.ways v.buffer none in
    record {
      none_waits = quiet;
      empty =
          elim v.slot as (λ o. v.slot ≡ o → v.slot ≡ None) [
            | None ↦ λ is. is
            | Some r ↦ λ is.
                let suits : slot_suits v (Some r) ≡ true = subst (λ o. slot_suits v o ≡ true) is (ok.each slot_fits) in
                absurd (asked-waits r.kind (state_at r.item v) suits (quiet r.item))
          ] refl;
    } where
      asked-waits : (k : TxKind) (o : Option LeafState) → request_suits k o ≡ true → state_waits o ≡ false → ⊥
      asked-waits TxKind.ReadTx None suits quiet = cc
      asked-waits TxKind.ReadTx (Some LeafState.Shared) suits quiet = cc
      asked-waits TxKind.ReadTx (Some LeafState.Exclusive) suits quiet = cc
      asked-waits TxKind.ReadTx (Some LeafState.Waiting) suits quiet = cc
      asked-waits TxKind.ReadTx (Some LeafState.Reading) suits quiet = cc
      asked-waits TxKind.ReadTx (Some LeafState.ReadingWaiting) suits quiet = cc
      asked-waits TxKind.EraseTx None suits quiet = cc
      asked-waits TxKind.EraseTx (Some LeafState.Shared) suits quiet = cc
      asked-waits TxKind.EraseTx (Some LeafState.Exclusive) suits quiet = cc
      asked-waits TxKind.EraseTx (Some LeafState.Waiting) suits quiet = cc
      asked-waits TxKind.EraseTx (Some LeafState.Reading) suits quiet = cc
      asked-waits TxKind.EraseTx (Some LeafState.ReadingWaiting) suits quiet = cc
      asked-waits TxKind.DataTx o suits quiet = cc
      asked-waits TxKind.ExclusiveTx o suits quiet = cc
      asked-waits TxKind.InjectTx o suits quiet = cc
      asked-waits TxKind.OutTx o suits quiet = cc

record CompletesWell (n : ℕ) (v : LeafValue) (c : Change) : Type 0 where
  -- what it stores to stands Exclusive
  stored : (s : Stored) → c.stored ≡ Some s → state_at s.item v ≡ Some LeafState.Exclusive
  reserved : reserves_below n c.after.reserved ≡ true

record FetchesWell (n : ℕ) (v : LeafValue) (x : ℕ) (state : LeafState) (way : ℕ) : Type 0 where
  rest : IsAtRest v
  known : x < n
  absent : leaf_entry x v ≡ None
  reading : is_reading state ≡ true
  inside : way < v.sizes.way_count

record UpgradesWell (v : LeafValue) (x : ℕ) : Type 0 where
  rest : IsAtRest v
  shared : state_at x v ≡ Some LeafState.Shared

abbrev DeedFits : ℕ → LeafValue → Deed → Type 0
DeedFits n v (has_halted cause) = Unit {0}
DeedFits n v (waits_for x) = Unit {0}
DeedFits n v (halts cause) = Unit {0}
DeedFits n v (completes c) = CompletesWell n v c
DeedFits n v (fetches x state way) = FetchesWell n v x state way
DeedFits n v (upgrades x words) = UpgradesWell v x
DeedFits n v finds_buffer_full = Unit {0}

range-below : (a k n : ℕ) → a + k ≤ n → All (λ w. w < n) (range_with_len a k)
range-below a zero n h = All-nil (λ w. w < n)
range-below a (suc k) n h = All-cons (λ w. w < n) a (range_with_len (a + 1) k) (omega arith) (range-below (a + 1) k n (omega arith))

pub free_way-inside : (sizes : LeafSizes) (x way : ℕ) (ways : List (Option WayValue)) → free_way sizes x ways ≡ Some way → way < sizes.way_count
unfolding free_way
free_way-inside sizes x way ways found = (find-holds (λ w. w < sizes.way_count) (λ way. is_none (item_in_way sizes.sets x way ways)) (range_with_len 0 sizes.way_count) way (range-below 0 sizes.way_count sizes.way_count (omega arith)) found).0

module _ (code : List CodeWord) (items : ItemTable) (victim : ℕ) (v : LeafValue) (ok : IsLeafOk (item_count items) v) where
  -- ---- an instruction that completes

  state-of_entry : (x : ℕ) (e : LeafEntry) → leaf_entry x v ≡ Some e → state_at x v ≡ Some e.state
  state-of_entry x e is = rw is refl

  stores-to : (x : ℕ) (words : List ℕ) (o : Option Stored) → o ≡ Some (record { item = x; words = words }) → state_at x v ≡ Some LeafState.Exclusive → (s : Stored) → o ≡ Some s → state_at s.item v ≡ Some LeafState.Exclusive
  stores-to x words o here exclusive s is =
      let same : (let t : Stored = record { item = x; words = words } in t) ≡ s = cc in
      subst (λ (t : Stored). state_at t.item v ≡ Some LeafState.Exclusive) same exclusive

  stores-nothing : (o : Option Stored) → o ≡ None → (s : Stored) → o ≡ Some s → state_at s.item v ≡ Some LeafState.Exclusive
  stores-nothing o none s is = cc

  reserves-if : (x : ℕ) (lr : Bool) → x < item_count items → reserves_below (item_count items) (if lr then Some x else v.reservation) ≡ true
  reserves-if x true known = lt-ltb _ _ known
  reserves-if x false known = ok.each reservation_fits

  -- the need is met
  record IsMet (ask : Ask) : Type 0 where
    known : (x : ℕ) → asked_item ask ≡ Some x → x < item_count items
    writes : (x : ℕ) → ask ≡ Ask.NeedsExclusive x → state_at x v ≡ Some LeafState.Exclusive
    writes_if : (x : ℕ) → ask ≡ Ask.Conditional x → has_reserved v.reservation x ≡ true → state_at x v ≡ Some LeafState.Exclusive

  change-fits : (ask : Ask) (finish : List ℕ → Bool → Finished) (words : ℕ → List ℕ) → IsMet ask → DeedFits (item_count items) v (deed_of_change (change_by ask v.reservation finish words true))
  change-fits Ask.Plain finish words met = record { stored = stores-nothing None refl; reserved = ok.each reservation_fits }
  change-fits (Ask.Put byte) finish words met = record { stored = stores-nothing None refl; reserved = ok.each reservation_fits }
  change-fits (Ask.NeedsShared x lr) finish words met = record { stored = stores-nothing None refl; reserved = reserves-if x lr (met.known x refl) }
  change-fits (Ask.NeedsExclusive x) finish words met = record { stored = stores-to x (finish (words x) false).words (Some (record { item = x; words = (finish (words x) false).words })) refl (met.writes x refl); reserved = ok.each reservation_fits }
  change-fits (Ask.Conditional x) finish words met =
      elim (has_reserved v.reservation x) as (λ b. has_reserved v.reservation x ≡ b → CompletesWell (item_count items) v (conditional b x (finish (words x)))) [
        | true ↦ λ is. record { stored = stores-to x (finish (words x) true).words (Some (record { item = x; words = (finish (words x) true).words })) refl (met.writes_if x refl is); reserved = refl }
        | false ↦ λ is. record { stored = stores-nothing None refl; reserved = refl }
      ] refl
  change-fits (Ask.Halt cause) finish words met = tt

  here-fits : (ask : Ask) → ask_of code items v.hart ≡ ask → IsMet ask → DeedFits (item_count items) v (deed_of_change (change_here code items v))
  unfolding change_here
  here-fits ask is met = subst (λ (a : Ask). DeedFits (item_count items) v (deed_of_change (change_by a v.reservation (finish_of code items v.hart) (words_here v) true))) (sym is) (change-fits ask (finish_of code items v.hart) (words_here v) met)

  -- ---- what an instruction needs

  abbrev NeedFits : Need → Type 0
  NeedFits no_need = DeedFits (item_count items) v (deed_of_change (change_here code items v))
  NeedFits (a_copy x state) = (x < item_count items) × (leaf_entry x v ≡ None) × (is_reading state ≡ true)
  NeedFits (no_other_copy x words) = state_at x v ≡ Some LeafState.Shared
  NeedFits (time x) = Unit {0}

  write-fits : (x : ℕ) → x < item_count items → (state_at x v ≡ Some LeafState.Exclusive → NeedFits no_need) → NeedFits (need_to_write x (leaf_entry x v))
  write-fits x known met =
      elim (leaf_entry x v) as (λ o. leaf_entry x v ≡ o → NeedFits (need_to_write x o)) [
        | None ↦ λ none. (known, none, refl)
        | Some e ↦ λ is. by_state e e.state (state-of_entry x e is) refl
      ] refl where
        by_state : (e : LeafEntry) (s : LeafState) → state_at x v ≡ Some e.state → e.state ≡ s → NeedFits (need_in_state x e.words s)
        by_state e LeafState.Shared at is = at ∙ ap Some is
        by_state e LeafState.Exclusive at is = met (at ∙ ap Some is)
        by_state e LeafState.Waiting at is = tt
        by_state e LeafState.Reading at is = tt
        by_state e LeafState.ReadingWaiting at is = tt

  need-fits : (ask : Ask) → ask_of code items v.hart ≡ ask → NeedFits (need_of ask v)
  need-fits Ask.Plain is = here-fits Ask.Plain is (record { known = λ x e. cc; writes = λ x e. cc; writes_if = λ x e r. cc })
  need-fits (Ask.Put byte) is = here-fits (Ask.Put byte) is (record { known = λ x e. cc; writes = λ x e. cc; writes_if = λ x e r. cc })
  need-fits (Ask.NeedsShared x lr) is =
      let known : x < item_count items = asks_inside code items v.hart x (ap asked_item is) in
      elim (leaf_entry x v) as (λ o. leaf_entry x v ≡ o → NeedFits (need_to_read x o)) [
        | None ↦ λ none. (known, none, refl)
        | Some e ↦ λ here. here-fits (Ask.NeedsShared x lr) is (record {
          known = λ y a. asks_inside code items v.hart y (ap asked_item is ∙ a);
          writes = λ y a. cc;
          writes_if = λ y a r. cc;
        })
      ] refl
  need-fits (Ask.NeedsExclusive x) is = write-fits x (asks_inside code items v.hart x (ap asked_item is)) (λ exclusive. here-fits (Ask.NeedsExclusive x) is (record {
    known = λ y a. asks_inside code items v.hart y (ap asked_item is ∙ a);
    writes = λ y a.
        let same : x ≡ y = cc in
        subst (λ z. state_at z v ≡ Some LeafState.Exclusive) same exclusive;
    writes_if = λ y a r. cc;
  }))
  need-fits (Ask.Conditional x) is =
      elim (has_reserved v.reservation x) as (λ b. has_reserved v.reservation x ≡ b → NeedFits (if b then need_to_write x (leaf_entry x v) else no_need)) [
        | true ↦ λ has. write-fits x (asks_inside code items v.hart x (ap asked_item is)) (λ exclusive. here-fits (Ask.Conditional x) is (record {
          known = λ y a. asks_inside code items v.hart y (ap asked_item is ∙ a);
          writes = λ y a. cc;
          writes_if = λ y a r.
              let same : x ≡ y = cc in
              subst (λ z. state_at z v ≡ Some LeafState.Exclusive) same exclusive;
        }))
        | false ↦ λ hasnt. here-fits (Ask.Conditional x) is (record {
          known = λ y a. asks_inside code items v.hart y (ap asked_item is ∙ a);
          writes = λ y a. cc;
          writes_if = λ y a r.
              let same : x ≡ y = cc in
              let has : has_reserved v.reservation x ≡ true = subst (λ z. has_reserved v.reservation z ≡ true) (sym same) r in
              cc;
        })
      ] refl
  need-fits (Ask.Halt cause) is = here-fits (Ask.Halt cause) is (record { known = λ x e. cc; writes = λ x e. cc; writes_if = λ x e r. cc })

  -- ---- the deed

  ways-some : 0 < v.sizes.way_count
  ways-some = ltb-true _ _ (and_parts (nat_lt 0 v.sizes.sets) (nat_lt 0 v.sizes.way_count) (ok.each has_ways)).1

  replaces-fits : (x : ℕ) (state : LeafState) (way : ℕ) (full : Bool) → FetchesWell (item_count items) v x state way → DeedFits (item_count items) v (replaces x state way full)
  replaces-fits x state way true well = tt
  replaces-fits x state way false well = well

  by_need-fits : IsAtRest v → (need : Need) → NeedFits need → DeedFits (item_count items) v (deed_by_need code items victim v need)
  by_need-fits rest no_need fits = fits
  by_need-fits rest (a_copy x state) fits =
      elim (free_way v.sizes x v.ways) as (λ o. free_way v.sizes x v.ways ≡ o → DeedFits (item_count items) v (deed_to_fetch x state victim v o)) [
        | Some way ↦ λ found. record { rest = rest; known = fits.0; absent = fits.1; reading = fits.2; inside = free_way-inside v.sizes x way v.ways found }
        | None ↦ λ none. replaces-fits x state (victim % v.sizes.way_count) (buffer_full v) (record { rest = rest; known = fits.0; absent = fits.1; reading = fits.2; inside = mod-lt victim ways-some })
      ] refl
  by_need-fits rest (no_other_copy x words) fits = record { rest = rest; shared = fits }
  by_need-fits rest (time x) fits = tt

  deed_of-fits : DeedFits (item_count items) v (deed_of code items victim v)
  unfolding deed_of
  deed_of-fits = unless_halted v.hart.halt where
    unless_halted : (o : Option HaltCause) → DeedFits (item_count items) v (deed_unless_halted code items victim v o)
    unless_halted (Some cause) = tt
    unless_halted None =
        elim (waiting_item v.ways v.buffer) as (λ o. waiting_item v.ways v.buffer ≡ o → DeedFits (item_count items) v (deed_unless_waiting code items victim v o)) [
          | Some x ↦ λ is. tt
          | None ↦ λ none. by_need-fits (at_rest (item_count items) v ok none) (need_of (ask_of code items v.hart) v) (need-fits (ask_of code items v.hart) refl)
        ] refl

-- ---- the leaf after it

-- the face of a leaf for an item, by the state of its entry, what its slot asks for, and its replies
abbrev face_by : Option LeafState → Bool → Bool → ℕ → ChildFace
face_by o read erase replies = record { hold = entry_hold o; reads = in_state is_reading o && not read; erases = in_state is_upgrading o && not erase; replies = replies; answers = false }

face-is : (x : ℕ) (v : LeafValue) → leaf_face x v ≡ face_by (state_at x v) (slot_has ReadTx x v.slot) (slot_has EraseTx x v.slot) (length (words_of_item x v.replies))
unfolding leaf_hold
face-is x v = refl

face-same : (x : ℕ) (v w : LeafValue) → state_at x w ≡ state_at x v → w.slot ≡ v.slot → w.replies ≡ v.replies → leaf_face x w ≡ leaf_face x v
face-same x v w state slot replies = face-is x w ∙ (rw (state, slot, replies) refl) ∙ sym (face-is x v)

-- where the slot was empty, and now asks for another item
face-asked_other : (x y : ℕ) (k : TxKind) (v w : LeafValue) → x ≢ y → state_at x w ≡ state_at x v → v.slot ≡ None → w.slot ≡ Some (record { kind = k; item = y }) → w.replies ≡ v.replies → leaf_face x w ≡ leaf_face x v
face-asked_other x y k v w other state empty slot replies =
    let differs : nat_eq x y ≡ false = ne_eqb _ _ other in
    face-is x w ∙ (rw (state, slot, replies, empty, differs) (asks-nothing k)) ∙ sym (face-is x v) where
      asks-nothing : (k : TxKind) → face_by (state_at x v) (is_kind ReadTx k && false) (is_kind EraseTx k && false) (length (words_of_item x v.replies)) ≡ face_by (state_at x v) false false (length (words_of_item x v.replies))
      asks-nothing TxKind.ReadTx = refl
      asks-nothing TxKind.DataTx = refl
      asks-nothing TxKind.EraseTx = refl
      asks-nothing TxKind.ExclusiveTx = refl
      asks-nothing TxKind.InjectTx = refl
      asks-nothing TxKind.OutTx = refl

module _ (n : ℕ) (v : LeafValue) (ok : IsLeafOk n v) where
  has : HasEntries n v.sizes v.ways v.buffer
  has = entries-from_rules n v ok

  -- all that stays where states and slot do
  same-states : (w : LeafValue) → w.sizes ≡ v.sizes → leaf_within n w ≡ true → HasEntries n w.sizes w.ways w.buffer → ((x : ℕ) → state_at x w ≡ state_at x v) → w.slot ≡ v.slot → w.replies ≡ v.replies → reserves_below n w.reservation ≡ true → KeepsLeafRules n v w
  same-states w sizes lists entries states slot replies reservation = record {
    own = rules-from_entries n w (record {
      sets = subst (λ (s : LeafSizes). (nat_lt 0 s.sets && nat_lt 0 s.way_count) ≡ true) (sym sizes) (ok.each has_ways);
      lists = lists;
      entries = entries;
      waiting = λ y z wait_y wait_z. one-waits n v ok y z (subst (λ o. state_waits o ≡ true) (states y) wait_y) (subst (λ o. state_waits o ≡ true) (states z) wait_z);
      slot = suits;
      replies = subst (λ (cs : List CopyValue). list_all (copy_fits n) cs ≡ true) (sym replies) (ok.each leaf_replies);
      reservation = reservation;
    });
    seen = λ x. face-same x v w (states x) slot replies;
  } where
    suits : slot_suits w w.slot ≡ true
    suits =
        elim v.slot as (λ o. v.slot ≡ o → slot_suits w w.slot ≡ true) [
          | None ↦ λ is. rw (slot ∙ is) refl
          | Some r ↦ λ is.
              let before : slot_suits v (Some r) ≡ true = subst (λ o. slot_suits v o ≡ true) is (ok.each slot_fits) in
              rw (slot ∙ is) (ap (request_suits r.kind) (states r.item) ∙ before)
        ] refl

  -- ---- completed

  stored-states : (o : Option Stored) → ((s : Stored) → o ≡ Some s → state_at s.item v ≡ Some LeafState.Exclusive) → HasEntries n v.sizes (ways_stored o v.ways) (buffer_stored o v.ways v.buffer) × ((x : ℕ) → state_in x (ways_stored o v.ways) (buffer_stored o v.ways v.buffer) ≡ state_at x v)
  stored-states None stored = (has, λ x. refl)
  stored-states (Some s) stored = (
    entries-become s.item LeafState.Exclusive s.words n v.sizes v.ways v.buffer refl has,
    λ x.
        elim (eqb_tells x s.item) [
          | inl same ↦ subst (λ y. state_in y (ways_stored (Some s) v.ways) (buffer_stored (Some s) v.ways v.buffer) ≡ state_at y v) (sym same.1) here
          | inr other ↦ ap (option_map entry_state) (entry-becomes_other s.item LeafState.Exclusive s.words v.ways v.buffer x other.1)
        ],
  )
    where
      kept-state : (o : Option LeafEntry) → option_map entry_state o ≡ Some LeafState.Exclusive → option_map entry_state (option_map (entry_with LeafState.Exclusive s.words) o) ≡ option_map entry_state o
      kept-state None h = refl
      kept-state (Some e) h = sym h

      here : state_in s.item (ways_stored (Some s) v.ways) (buffer_stored (Some s) v.ways v.buffer) ≡ state_at s.item v
      here = ap (option_map entry_state) (entry-becomes s.item LeafState.Exclusive s.words v.ways v.buffer) ∙ kept-state (leaf_entry s.item v) (stored s refl)

  completes-keeps : (c : Change) → CompletesWell n v c → leaf_within n (leaf_after_deed v (completes c)) ≡ true → KeepsLeafRules n v (leaf_after_deed v (completes c))
  completes-keeps c well lists =
      let after = stored-states c.stored well.stored in
      same-states (leaf_after_deed v (completes c)) refl lists after.0 after.1 refl refl well.reserved

  -- ---- an entry that asks for something

  -- one item's entry came to wait, with a request for it in the slot, and no other entry waited or has changed its state
  record Asks (w : LeafValue) (x : ℕ) (k : TxKind) : Type 0 where
    sizes : w.sizes ≡ v.sizes
    entries : HasEntries n w.sizes w.ways w.buffer
    others : (y : ℕ) → y ≢ x → state_at y w ≡ state_at y v
    slot : w.slot ≡ Some (record { kind = k; item = x })
    suits : request_suits k (state_at x w) ≡ true
    replies : w.replies ≡ v.replies
    reservation : w.reservation ≡ v.reservation
    face : leaf_face x w ≡ leaf_face x v

  asks-keeps : (w : LeafValue) (x : ℕ) (k : TxKind) → leaf_within n w ≡ true → IsAtRest v → Asks w x k → KeepsLeafRules n v w
  asks-keeps w x k lists rest a = record {
    own = rules-from_entries n w (record {
      sets = subst (λ (s : LeafSizes). (nat_lt 0 s.sets && nat_lt 0 s.way_count) ≡ true) (sym a.sizes) (ok.each has_ways);
      lists = lists;
      entries = a.entries;
      waiting = λ y z wait_y wait_z. waits-here y wait_y ∙ sym (waits-here z wait_z);
      slot = subst (λ o. slot_suits w o ≡ true) (sym a.slot) a.suits;
      replies = subst (λ (cs : List CopyValue). list_all (copy_fits n) cs ≡ true) (sym a.replies) (ok.each leaf_replies);
      reservation = subst (λ o. reserves_below n o ≡ true) (sym a.reservation) (ok.each reservation_fits);
    });
    seen = λ y.
        elim (eqb_tells y x) [
          | inl same ↦ subst (λ z. leaf_face z w ≡ leaf_face z v) (sym same.1) a.face
          | inr other ↦ face-asked_other y x k v w other.1 (a.others y other.1) rest.empty a.slot a.replies
        ];
  } where
    waits-here : (y : ℕ) → state_waits (state_at y w) ≡ true → y ≡ x
    waits-here y wait =
        elim (eqb_tells y x) [
          | inl same ↦ same.1
          | inr other ↦
              let waited : state_waits (state_at y v) ≡ true = subst (λ o. state_waits o ≡ true) (a.others y other.1) wait in
              let quiet : state_waits (state_at y v) ≡ false = rest.none_waits y in
              cc
        ]

  upgrades-keeps : (x : ℕ) (words : List ℕ) → UpgradesWell v x → leaf_within n (leaf_after_deed v (upgrades x words)) ≡ true → KeepsLeafRules n v (leaf_after_deed v (upgrades x words))
  upgrades-keeps x words well lists = asks-keeps (leaf_after_deed v (upgrades x words)) x EraseTx lists well.rest (record {
    sizes = refl;
    entries = entries-become x LeafState.Waiting words n v.sizes v.ways v.buffer refl has;
    others = λ y other. ap (option_map entry_state) (entry-becomes_other x LeafState.Waiting words v.ways v.buffer y other);
    slot = refl;
    suits = rw now refl;
    replies = refl;
    reservation = refl;
    face = face-is x (leaf_after_deed v (upgrades x words)) ∙ (rw (now, well.shared, eq-eqb x x refl) refl) ∙ sym (face-is x v);
  }) where
    becomes-waiting : (o : Option LeafEntry) → option_map entry_state o ≡ Some LeafState.Shared → option_map entry_state (option_map (entry_with LeafState.Waiting words) o) ≡ Some LeafState.Waiting
    becomes-waiting None h = cc
    becomes-waiting (Some e) h = refl

    now : state_at x (leaf_after_deed v (upgrades x words)) ≡ Some LeafState.Waiting
    now = ap (option_map entry_state) (entry-becomes x LeafState.Waiting words v.ways v.buffer) ∙ becomes-waiting (leaf_entry x v) well.shared

  -- the leaf without the item that stands in the way
  record IsCleared (x way : ℕ) (ways : List (Option WayValue)) (buffer : List BufferValue) : Type 0 where
    entries : HasEntries n v.sizes ways buffer
    same : (z : ℕ) → entry_at z ways buffer ≡ entry_at z v.ways v.buffer
    free : (y : ℕ) (e : WayValue) → way_at y ways ≡ Some e → y % v.sizes.sets ≡ x % v.sizes.sets → e.way ≢ way

  stands : (x way y : ℕ) (e : WayValue) → way_at y v.ways ≡ Some e → y % v.sizes.sets ≡ x % v.sizes.sets → e.way ≡ way → stands_in v.sizes.sets x way y (way_at y v.ways) ≡ true
  stands x way y e is set there = rw is (both_true (eq-eqb _ _ set) (eq-eqb _ _ there))

  cleared : (x way : ℕ) (o : Option ℕ) → item_in_way v.sizes.sets x way v.ways ≡ o → IsCleared x way (ways_without o v.ways) (v.buffer ++ moved_to_buffer o v.ways)
  unfolding item_in_way
  cleared x way None none = record {
    entries = subst (λ b. HasEntries n v.sizes v.ways b) (sym (append-nil v.buffer)) has;
    same = λ z. ap (entry_at z v.ways) (append-nil v.buffer);
    free = λ y e is set there.
        let passes : stands_in v.sizes.sets x way y (way_at y v.ways) ≡ true = stands x way y e is set there in
        let fails : stands_in v.sizes.sets x way y (way_at y v.ways) ≡ false = none-passes (stands_in v.sizes.sets x way) y v.ways None none (way-within y v.ways e is) in
        let wrong : true ≡ false = sym passes ∙ fails in
        cc;
  }
  cleared x way (Some y) found =
      let passes : stands_in v.sizes.sets x way y (way_at y v.ways) ≡ true = found-passes (stands_in v.sizes.sets x way) y v.ways None found in
      elim (way_at y v.ways) as (λ o. way_at y v.ways ≡ o → IsCleared x way (ways_without (Some y) v.ways) (v.buffer ++ moved_entry y o)) [
        | None ↦ λ none.
            let wrong : false ≡ true = rw none at passes in
            cc
        | Some e ↦ λ is.
            let test : stands_in v.sizes.sets x way y (Some e) ≡ true = rw is at passes in
            let parts = and_parts (nat_eq (y % v.sizes.sets) (x % v.sizes.sets)) (nat_eq e.way way) test in
            record {
              entries = entries-move n v.sizes v.ways v.buffer y e is has;
              same = entry-moved n v.sizes v.ways v.buffer y e is has;
              free = λ z f at_z set there.
                  let before : way_at z v.ways ≡ Some f = way-kept n v.sizes v.ways v.buffer y e is has z f at_z in
                  let same : y ≡ z = has.alone y z e f is before (set ∙ sym (eqb-true _ _ parts.0)) (there ∙ sym (eqb-true _ _ parts.1)) in
                  let gone : way_at z (slice_set v.ways y None) ≡ None = subst (λ k. way_at k (slice_set v.ways y None) ≡ None) same (way-set_none v.ways y) in
                  let wrong : Some f ≡ None = sym at_z ∙ gone in
                  cc;
            }
      ] refl

  fetches-keeps : (x : ℕ) (state : LeafState) (way : ℕ) → FetchesWell n v x state way → leaf_within n (leaf_after_deed v (fetches x state way)) ≡ true → KeepsLeafRules n v (leaf_after_deed v (fetches x state way))
  fetches-keeps x state way well lists =
      let o = item_in_way v.sizes.sets x way v.ways in
      let ways = ways_without o v.ways in
      let buffer = v.buffer ++ moved_to_buffer o v.ways in
      let clear = cleared x way o refl in
      let words = blank v.sizes.width in
      let within : x < length ways = subst (λ k. x < k) (sym clear.entries.count) well.known in
      let now : state_at x (leaf_after_deed v (fetches x state way)) ≡ Some state = ap (option_map entry_state) (entry-enters x way state words ways buffer within) in
      let before : state_at x v ≡ None = ap (option_map entry_state) well.absent in
      asks-keeps (leaf_after_deed v (fetches x state way)) x ReadTx lists well.rest (record {
        sizes = refl;
        entries = entries-enter x way state words n v.sizes ways buffer clear.entries well.known (clear.same x ∙ well.absent) well.inside (implies-by _ _ (λ reads. are_zero-blank v.sizes.width)) clear.free;
        others = λ y other. ap (option_map entry_state) (entry-enters_other x way state words ways buffer y other ∙ clear.same y);
        slot = refl;
        suits = rw now well.reading;
        replies = refl;
        reservation = refl;
        face = face-is x (leaf_after_deed v (fetches x state way)) ∙ (rw (now, before, eq-eqb x x refl) (reading-face state well.reading)) ∙ sym (face-is x v);
      }) where
        are_zero-blank : (width : ℕ) → are_zero (blank width) ≡ true
        are_zero-blank zero = refl
        are_zero-blank (suc width) = are_zero-blank width

        reading-face : (s : LeafState) → is_reading s ≡ true → face_by (Some s) true false (length (words_of_item x v.replies)) ≡ face_by None (slot_has ReadTx x v.slot) (slot_has EraseTx x v.slot) (length (words_of_item x v.replies))
        reading-face LeafState.Shared reads = cc
        reading-face LeafState.Exclusive reads = cc
        reading-face LeafState.Waiting reads = cc
        reading-face LeafState.Reading reads = refl
        reading-face LeafState.ReadingWaiting reads = refl

  deed-keeps : (d : Deed) → DeedFits n v d → leaf_within n (leaf_after_deed v d) ≡ true → KeepsLeafRules n v (leaf_after_deed v d)
  deed-keeps (has_halted cause) fits lists = same-states v refl lists has (λ x. refl) refl refl (ok.each reservation_fits)
  deed-keeps (waits_for x) fits lists = same-states v refl lists has (λ x. refl) refl refl (ok.each reservation_fits)
  deed-keeps (halts cause) fits lists = same-states (leaf_after_deed v (halts cause)) refl lists has (λ x. refl) refl refl (ok.each reservation_fits)
  deed-keeps (completes c) fits lists = completes-keeps c fits lists
  deed-keeps (fetches x state way) fits lists = fetches-keeps x state way fits lists
  deed-keeps (upgrades x words) fits lists = upgrades-keeps x words fits lists
  deed-keeps finds_buffer_full fits lists = same-states v refl lists has (λ x. refl) refl refl (ok.each reservation_fits)

-- a hart's turn keeps the rules of its leaf, and its face for each item
pub leaf_step-keeps_rules : (code : List CodeWord) (items : ItemTable) (now : Key) (victim : ℕ) (v : LeafValue) → IsLeafOk (item_count items) v → KeepsLeafRules (item_count items) v (leaf_step code items now victim v).leaf
unfolding leaf_step
leaf_step-keeps_rules code items now victim v ok = deed-keeps (item_count items) v ok (deed_of code items victim v) (deed_of-fits code items victim v ok) (leaf_step-within (item_count items) code items now victim v (ok.each leaf_lists))
