-- A turn of a hart keeps the form of its leaf, and an operation that completes has it.
use Rattle.std.proofs.Common.{◌≡◌, ℕ, ◌+◌, ◌*◌, ◌/◌, ◌%◌, Bool, true, false, cond, List, Option, Some, None, Result, Ok, Err, refl, arith}
use Rattle.std.specs.Prelude.{IfSome, slice_index}
use Rattle.std.specs.List.{AllByRecursion}
use Rattle.value_laws.specs.DdmTypes.declared.answers.TxKind.TheVariants.{ReadTx, EraseTx}
use Rattle.value_laws.specs.DdmTypes.declared.operations.HaltCause.{HaltCause}
use Rattle.value_laws.specs.DdmTypes.declared.sizes.LeafState.{LeafState}
use Rattle.value_laws.specs.DdmTypes.declared.keys.Key.{Key}
use Rattle.value_laws.specs.DdmTypes.ItemTable.{ItemTable}
use Rattle.value_laws.specs.DdmTypes.CodeMap.{CodeWord}
use Rattle.value_laws.specs.FlatModel.Hart.{HartValue, Action, Halts, Computes, Puts, Loads, Stores, Reserves, StoresIfReserved, Changes, action_of, ask_by, ask_of, finish_by, finish_of}
use Rattle.value_laws.specs.FlatModel.Flat.{Change, Stored, change_by, conditional, has_reserved}
use Rattle.value_laws.specs.TreeModel.State.Values.{WayValue, LeafValue}
use Rattle.value_laws.specs.TreeModel.State.Leaf.{blank, LeafEntry, way_at, leaf_entry, entry_words, free_way, item_in_way, becomes, enters, buffer_full, waiting_item}
use Rattle.value_laws.specs.TreeModel.Turns.HartTurn.{Deed, has_halted, waits_for, halts, completes, fetches, upgrades, finds_buffer_full, Need, no_need, a_copy, no_other_copy, time, need_to_read, need_in_state, need_to_write, need_of, words_here, change_here, deed_of_change, replaces, deed_to_fetch, deed_by_need, deed_unless_waiting, deed_unless_halted, deed_of, ways_stored, buffer_stored, moved_entry, ways_without, moved_to_buffer, leaf_after_deed}
use Rattle.value_laws.specs.Values.{IsWord, AreWords, CauseHasForm, HartHasForm, CodeHasForm, WayHasForm, BufferHasForm, LeafHasForm, KeyHasForm, EffectHasForm, OpHasForm}
use Rattle.value_laws.proofs.Lists.{all-set, all-joined}
use Rattle.value_laws.proofs.Words.{amo_words, loaded_words, stored_words, word-at, words-set}
use Rattle.value_laws.proofs.Instructions.{ActionHasForm, action-form, written-form, advanced-form}
use Rattle.value_laws.proofs.LeafForm.{EntryHasForm, entry-form, way-at, ways-fated, buffer-fated, blank-here, asking}

module _ (width : ℕ) where
  -- ---- what a step does

  pub record ChangeHasForm (c : Change) : Type 0 where
    pub effect : EffectHasForm c.effect
    pub after : HartHasForm c.after.hart
    pub stored : IfSome c.stored (λ (s : Stored). AreWords width s.words)

  abbrev pub ResultHasForm : Result Change HaltCause → Type 0
  ResultHasForm (Ok c) = ChangeHasForm c
  ResultHasForm (Err cause) = CauseHasForm cause

  -- the words that it looks at
  abbrev HasItsWords : Action → Option ℕ → (ℕ → List ℕ) → Type 0
  HasItsWords (Halts cause) reserved words = Unit {0}
  HasItsWords (Computes after) reserved words = Unit {0}
  HasItsWords (Puts byte after) reserved words = Unit {0}
  HasItsWords (Loads op rd a) reserved words = AreWords width (words a.item)
  HasItsWords (Stores op v a) reserved words = AreWords width (words a.item)
  HasItsWords (Reserves rd a) reserved words = AreWords width (words a.item)
  HasItsWords (StoresIfReserved rd v a) reserved words = has_reserved reserved a.item ≡ true → AreWords width (words a.item)
  HasItsWords (Changes op rd v a) reserved words = AreWords width (words a.item)

  word_address-word : (a : ℕ) → IsWord a → IsWord (a / 4 * 4)
  word_address-word a small = omega (arith, small)

  change-form : (h : HartValue) → HartHasForm h → (action : Action) → ActionHasForm action → (reserved : Option ℕ) (words : ℕ → List ℕ) → HasItsWords action reserved words → ResultHasForm (change_by (ask_by action) reserved (finish_by action h) words true)
  change-form h has (Halts cause) is reserved words are = is
  change-form h has (Computes after) is reserved words are = record { effect = tt; after = is; stored = tt }
  change-form h has (Puts byte after) is reserved words are = record { effect = is.0; after = is.1; stored = tt }
  change-form h has (Loads op rd a) is reserved words are =
      let word = word-at (words a.item) a.place are.each in
      record { effect = (word_address-word a.address is, word); after = written-form h has rd _ (loaded_words op _ (a.address % 4) word); stored = tt }
  change-form h has (Stores op v a) is reserved words are =
      let after = stored_words op (slice_index (words a.item) a.place) (a.address % 4) v is.0 in
      record { effect = (word_address-word a.address is.1, word-at (words a.item) a.place are.each, after); after = advanced-form h has; stored = words-set width (words a.item) a.place _ are after }
  change-form h has (Reserves rd a) is reserved words are =
      let word = word-at (words a.item) a.place are.each in
      record { effect = (word_address-word a.address is, word); after = written-form h has rd _ word; stored = tt }
  change-form h has (StoresIfReserved rd v a) is reserved words are = by (has_reserved reserved a.item) refl where
    by : (b : Bool) → has_reserved reserved a.item ≡ b → ChangeHasForm (conditional b a.item (finish_by (StoresIfReserved rd v a) h (words a.item)))
    by true there =
        let have = are there in
        record { effect = (word_address-word a.address is.1, word-at (words a.item) a.place have.each, is.0); after = written-form h has rd 0 (omega arith); stored = words-set width (words a.item) a.place v have is.0 }
    by false there = record { effect = word_address-word a.address is.1; after = written-form h has rd 1 (omega arith); stored = tt }
  change-form h has (Changes op rd v a) is reserved words are =
      let before = word-at (words a.item) a.place are.each in
      let after = amo_words op (slice_index (words a.item) a.place) v before is.0 in
      record { effect = (word_address-word a.address is.1, before, after); after = written-form h has rd _ before; stored = words-set width (words a.item) a.place _ are after }

  -- ---- where all is at hand, the leaf has the words

  read-words : (x : ℕ) (o : Option LeafEntry) → EntryHasForm width o → need_to_read x o ≡ no_need → AreWords width (entry_words o)
  read-words x None has need = cc
  read-words x (Some e) has need = has

  write-words : (x : ℕ) (o : Option LeafEntry) → EntryHasForm width o → need_to_write x o ≡ no_need → AreWords width (entry_words o)
  write-words x None has need = cc
  write-words x (Some e) has need = has

  module _ (most : ℕ) (v : LeafValue) (has : LeafHasForm width most v) where
    entry-of : (x : ℕ) → EntryHasForm width (leaf_entry x v)
    entry-of x = entry-form width x v.ways v.buffer has.ways has.buffer

    has-words : (action : Action) → need_of (ask_by action) v ≡ no_need → HasItsWords action v.reservation (words_here v)
    has-words (Halts cause) need = tt
    has-words (Computes after) need = tt
    has-words (Puts byte after) need = tt
    has-words (Loads op rd a) need = read-words a.item (leaf_entry a.item v) (entry-of a.item) need
    has-words (Stores op w a) need = write-words a.item (leaf_entry a.item v) (entry-of a.item) need
    has-words (Reserves rd a) need = read-words a.item (leaf_entry a.item v) (entry-of a.item) need
    has-words (StoresIfReserved rd w a) need = by (has_reserved v.reservation a.item) need where
      by : (b : Bool) → cond b (need_to_write a.item (leaf_entry a.item v)) no_need ≡ no_need → b ≡ true → AreWords width (words_here v a.item)
      by true need there = write-words a.item (leaf_entry a.item v) (entry-of a.item) need
      by false need there = cc
    has-words (Changes op rd w a) need = write-words a.item (leaf_entry a.item v) (entry-of a.item) need

    -- ---- what a turn comes to

    abbrev pub DeedHasForm : Deed → Type 0
    DeedHasForm (has_halted cause) = Unit {0}
    DeedHasForm (waits_for x) = Unit {0}
    DeedHasForm (halts cause) = CauseHasForm cause
    DeedHasForm (completes c) = ChangeHasForm c
    DeedHasForm (fetches x state way) = Unit {0}
    DeedHasForm (upgrades x words) = AreWords width words
    DeedHasForm finds_buffer_full = Unit {0}

    deed-of-change : (r : Result Change HaltCause) → ResultHasForm r → DeedHasForm (deed_of_change r)
    deed-of-change (Ok c) is = is
    deed-of-change (Err cause) is = is

    deed-to-fetch : (x : ℕ) (state : LeafState) (victim : ℕ) (o : Option ℕ) → DeedHasForm (deed_to_fetch x state victim v o)
    deed-to-fetch x state victim (Some way) = tt
    deed-to-fetch x state victim None = by (buffer_full v) where
      by : (b : Bool) → DeedHasForm (replaces x state (victim % v.sizes.way_count) b)
      by true = tt
      by false = tt

    -- a need of no other copy is of an entry's words
    abbrev NeedHasForm : Need → Type 0
    NeedHasForm no_need = Unit {0}
    NeedHasForm (a_copy x state) = Unit {0}
    NeedHasForm (no_other_copy x words) = AreWords width words
    NeedHasForm (time x) = Unit {0}

    need-read : (x : ℕ) (o : Option LeafEntry) → NeedHasForm (need_to_read x o)
    need-read x None = tt
    need-read x (Some e) = tt

    need-write : (x : ℕ) (o : Option LeafEntry) → EntryHasForm width o → NeedHasForm (need_to_write x o)
    need-write x None is = tt
    need-write x (Some e) is = by e.state where
      by : (s : LeafState) → NeedHasForm (need_in_state x e.words s)
      by LeafState.Exclusive = tt
      by LeafState.Shared = is
      by LeafState.Waiting = tt
      by LeafState.Reading = tt
      by LeafState.ReadingWaiting = tt

    need-form : (action : Action) → NeedHasForm (need_of (ask_by action) v)
    need-form (Halts cause) = tt
    need-form (Computes after) = tt
    need-form (Puts byte after) = tt
    need-form (Loads op rd a) = need-read a.item (leaf_entry a.item v)
    need-form (Stores op w a) = need-write a.item (leaf_entry a.item v) (entry-of a.item)
    need-form (Reserves rd a) = need-read a.item (leaf_entry a.item v)
    need-form (StoresIfReserved rd w a) = by (has_reserved v.reservation a.item) where
      by : (b : Bool) → NeedHasForm (cond b (need_to_write a.item (leaf_entry a.item v)) no_need)
      by true = need-write a.item (leaf_entry a.item v) (entry-of a.item)
      by false = tt
    need-form (Changes op rd w a) = need-write a.item (leaf_entry a.item v) (entry-of a.item)

    module _ (code : List CodeWord) (items : ItemTable) (victim : ℕ) (code_has : AllByRecursion CodeHasForm code) where
      change_here-form : need_of (ask_of code items v.hart) v ≡ no_need → ResultHasForm (change_here code items v)
      unfolding change_here ask_of finish_of
      change_here-form need =
          let action = action_of code items v.hart in
          change-form v.hart has.hart action (action-form code items v.hart code_has has.hart) v.reservation (words_here v) (has-words action need)

      deed-by-need : (need : Need) → need_of (ask_of code items v.hart) v ≡ need → NeedHasForm need → DeedHasForm (deed_by_need code items victim v need)
      deed-by-need no_need is form = deed-of-change (change_here code items v) (change_here-form is)
      deed-by-need (a_copy x state) is form = deed-to-fetch x state victim (free_way v.sizes x v.ways)
      deed-by-need (no_other_copy x words) is form = form
      deed-by-need (time x) is form = tt

      need-here : NeedHasForm (need_of (ask_of code items v.hart) v)
      unfolding ask_of
      need-here = need-form (action_of code items v.hart)

      deed-unless-waiting : (o : Option ℕ) → DeedHasForm (deed_unless_waiting code items victim v o)
      deed-unless-waiting (Some x) = tt
      deed-unless-waiting None = deed-by-need (need_of (ask_of code items v.hart) v) refl need-here

      deed-unless-halted : (o : Option HaltCause) → DeedHasForm (deed_unless_halted code items victim v o)
      deed-unless-halted (Some cause) = tt
      deed-unless-halted None = deed-unless-waiting (waiting_item v.ways v.buffer)

      pub deed-form : DeedHasForm (deed_of code items victim v)
      unfolding deed_of
      deed-form = deed-unless-halted v.hart.halt

    -- ---- the leaf after it

    stored-ways : (o : Option Stored) → IfSome o (λ (s : Stored). AreWords width s.words) → AllByRecursion (WayHasForm width) (ways_stored o v.ways)
    stored-ways None is = has.ways
    stored-ways (Some s) is = ways-fated width s.item (becomes LeafState.Exclusive s.words) v.ways is has.ways

    stored-buffer : (o : Option Stored) → IfSome o (λ (s : Stored). AreWords width s.words) → AllByRecursion (BufferHasForm width) (buffer_stored o v.ways v.buffer)
    stored-buffer None is = has.buffer
    stored-buffer (Some s) is = buffer-fated width s.item (becomes LeafState.Exclusive s.words) v.ways v.buffer is has.buffer

    without-form : (o : Option ℕ) → AllByRecursion (WayHasForm width) (ways_without o v.ways)
    without-form None = has.ways
    without-form (Some y) = all-set (WayHasForm width) v.ways y None has.ways tt

    moved-form : (o : Option ℕ) → AllByRecursion (BufferHasForm width) (moved_to_buffer o v.ways)
    moved-form None = tt
    moved-form (Some y) = by (way_at y v.ways) (way-at width v.ways y has.ways) where
      by : (o : Option WayValue) → WayHasForm width o → AllByRecursion (BufferHasForm width) (moved_entry y o)
      by None is = tt
      by (Some e) is = (is, tt)

    pub after-form : (d : Deed) → DeedHasForm d → LeafHasForm width (most + 1) (leaf_after_deed v d)
    after-form (has_halted cause) is = record { number = has.number; sizes = has.sizes; hart = has.hart; done = omega (arith, has.done); ways = has.ways; buffer = has.buffer; slot = has.slot; replies = has.replies }
    after-form (waits_for x) is = record { number = has.number; sizes = has.sizes; hart = has.hart; done = omega (arith, has.done); ways = has.ways; buffer = has.buffer; slot = has.slot; replies = has.replies }
    after-form (halts cause) is = record {
      number = has.number;
      sizes = has.sizes;
      hart = record { registers = has.hart.registers; zero = has.hart.zero; pc = has.hart.pc; halt = is };
      done = omega (arith, has.done);
      ways = has.ways;
      buffer = has.buffer;
      slot = has.slot;
      replies = has.replies;
    }
    after-form (completes c) is = record {
      number = has.number;
      sizes = has.sizes;
      hart = is.after;
      done = omega (arith, has.done);
      ways = stored-ways c.stored is.stored;
      buffer = stored-buffer c.stored is.stored;
      slot = has.slot;
      replies = has.replies;
    }
    after-form (fetches x state way) is =
        let moved = item_in_way v.sizes.sets x way v.ways in
        record {
          number = has.number;
          sizes = has.sizes;
          hart = has.hart;
          done = omega (arith, has.done);
          ways = ways-fated width x (enters way state (blank v.sizes.width)) (ways_without moved v.ways) (blank-here width v.sizes.width has.sizes) (without-form moved);
          buffer = all-joined (BufferHasForm width) v.buffer (moved_to_buffer moved v.ways) has.buffer (moved-form moved);
          slot = asking width (Some ReadTx) x v.slot refl has.slot;
          replies = has.replies;
        }
    after-form (upgrades x words) is = record {
      number = has.number;
      sizes = has.sizes;
      hart = has.hart;
      done = omega (arith, has.done);
      ways = ways-fated width x (becomes LeafState.Waiting words) v.ways is has.ways;
      buffer = buffer-fated width x (becomes LeafState.Waiting words) v.ways v.buffer is has.buffer;
      slot = asking width (Some EraseTx) x v.slot refl has.slot;
      replies = has.replies;
    }
    after-form finds_buffer_full is = record { number = has.number; sizes = has.sizes; hart = has.hart; done = omega (arith, has.done); ways = has.ways; buffer = has.buffer; slot = has.slot; replies = has.replies }

    -- ---- the operation

    pub completed-form : (now : Key) → KeyHasForm most now → (c : Change) → ChangeHasForm c → OpHasForm most (record { key = now; hart = v.number; pc = v.hart.pc; effect = c.effect })
    completed-form now key c is = record { key = key; hart = has.number; pc = has.hart.pc; effect = is.effect }
