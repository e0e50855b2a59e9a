-- A leaf keeps its form when its bus tells it something or takes something from it.
use Rattle.std.proofs.Common.{◌≡◌, ℕ, zero, suc, Bool, true, false, cond, List, [], ◌∷◌, Option, Some, None, refl, subst}
use Rattle.std.specs.Prelude.{IfSome, not, is_some, map, option_map}
use Rattle.std.specs.List.{AllByRecursion}
use Rattle.value_laws.specs.DdmTypes.declared.answers.TxKind.{TxKind}
use Rattle.value_laws.specs.DdmTypes.declared.sizes.LeafState.{LeafState}
use Rattle.value_laws.specs.TreeModel.State.Kinds.{goes_up}
use Rattle.value_laws.specs.TreeModel.State.Lists.{first_some}
use Rattle.value_laws.specs.TreeModel.State.States.{is_reading, state_lost, asked_when_lost, state_with_data, asked_with_data, state_with_exclusive, state_with_inject, state_answered}
use Rattle.value_laws.specs.TreeModel.State.Values.{RequestValue, WayValue, BufferValue, LeafSizes, LeafValue}
use Rattle.value_laws.specs.TreeModel.State.Leaf.{blank, LeafEntry, way_at, way_entry, buffer_entry, is_buffered, buffered, entry_at, leaf_entry, free_way, Fate, stays, ends, becomes, enters, words_in, way_with, buffer_with, ways_after, buffer_after, enters_free, slot_has, slot_asking, slot_struck, fate_by, fate_by_loss, fate_when_lost, fate_with_data, fate_with_exclusive, fate_answering, fate_with_inject, asked_by, reply_by, reply_of, leaf_lose, leaf_take_data, leaf_take_exclusive, leaf_answer, leaf_take_inject, leaf_give_up}
use Rattle.value_laws.specs.DdmTypes.declared.answers.TxKind.TheVariants.{ReadTx}
use Rattle.value_laws.specs.Values.{AreWords, WayHasForm, BufferHasForm, CopyHasForm, SlotHasForm, LeafHasForm}
use Rattle.value_laws.proofs.Lists.{all-set, all-filter, all-found, all-map, all-joined}
use Rattle.value_laws.proofs.Words.{blank-words}

module _ (width : ℕ) where
  abbrev pub EntryHasForm : Option LeafEntry → Type 0
  EntryHasForm o = IfSome o (λ (e : LeafEntry). AreWords width e.words)

  -- ---- entries

  pub way-at : (ways : List (Option WayValue)) (x : ℕ) → AllByRecursion (WayHasForm width) ways → WayHasForm width (way_at x ways)
  way-at [] x all = tt
  way-at (o ∷ ways) zero all = all.0
  way-at (o ∷ ways) (suc x) all = way-at ways x all.1

  pub buffered-form : (x : ℕ) (buffer : List BufferValue) → AllByRecursion (BufferHasForm width) buffer → IfSome (buffered x buffer) (BufferHasForm width)
  buffered-form x buffer all = by (buffered x buffer) refl where
    by : (o : Option BufferValue) → buffered x buffer ≡ o → IfSome o (BufferHasForm width)
    by None is = tt
    by (Some e) is = all-found (BufferHasForm width) (is_buffered x) buffer e all is

  pub entry-form : (x : ℕ) (ways : List (Option WayValue)) (buffer : List BufferValue) → AllByRecursion (WayHasForm width) ways → AllByRecursion (BufferHasForm width) buffer → EntryHasForm (entry_at x ways buffer)
  unfolding entry_at
  entry-form x ways buffer in_ways in_buffer = by (way_at x ways) (way-at ways x in_ways) (buffered x buffer) (buffered-form x buffer in_buffer) where
    by : (o : Option WayValue) → WayHasForm width o → (b : Option BufferValue) → IfSome b (BufferHasForm width) → EntryHasForm (first_some (option_map way_entry o) (option_map buffer_entry b))
    by (Some e) here b there = here
    by None here (Some e) there = there
    by None here None there = tt

  -- ---- what becomes of an entry

  abbrev pub FateHasForm : Fate → Type 0
  FateHasForm stays = Unit {0}
  FateHasForm ends = Unit {0}
  FateHasForm (becomes state words) = AreWords width words
  FateHasForm (enters way state words) = AreWords width words

  changed-way : (state : LeafState) (words : List ℕ) (o : Option WayValue) → AreWords width words → WayHasForm width (option_map (way_with state words) o)
  changed-way state words None are = tt
  changed-way state words (Some e) are = are

  changed-buffer : (x : ℕ) (state : LeafState) (words : List ℕ) → AreWords width words → (e : BufferValue) → BufferHasForm width e → BufferHasForm width (buffer_with x state words e)
  changed-buffer x state words are e has = by (is_buffered x e) where
    by : (b : Bool) → BufferHasForm width (cond b (record e { state = state; words = words }) e)
    by true = are
    by false = has

  pub ways-fated : (x : ℕ) (f : Fate) (ways : List (Option WayValue)) → FateHasForm f → AllByRecursion (WayHasForm width) ways → AllByRecursion (WayHasForm width) (ways_after x f ways)
  ways-fated x stays ways has all = all
  ways-fated x ends ways has all = all-set (WayHasForm width) ways x None all tt
  ways-fated x (becomes state words) ways has all = all-set (WayHasForm width) ways x _ all (changed-way state words (way_at x ways) has)
  ways-fated x (enters way state words) ways has all = all-set (WayHasForm width) ways x (Some (record { way = way; state = state; words = words })) all has

  pub buffer-fated : (x : ℕ) (f : Fate) (ways : List (Option WayValue)) (buffer : List BufferValue) → FateHasForm f → AllByRecursion (BufferHasForm width) buffer → AllByRecursion (BufferHasForm width) (buffer_after x f ways buffer)
  buffer-fated x stays ways buffer has all = all
  buffer-fated x ends ways buffer has all = all-filter (BufferHasForm width) (λ e. not (is_buffered x e)) buffer all
  buffer-fated x (becomes state words) ways buffer has all = by (is_some (way_at x ways)) where
    by : (b : Bool) → AllByRecursion (BufferHasForm width) (cond b buffer (map (buffer_with x state words) buffer))
    by true = all
    by false = all-map (BufferHasForm width) (BufferHasForm width) (buffer_with x state words) (changed-buffer x state words has) buffer all
  buffer-fated x (enters way state words) ways buffer has all = all

  -- ---- what is asked for

  pub asking : (o : Option TxKind) (x : ℕ) (slot : Option RequestValue) → IfSome o (λ kind. goes_up kind ≡ true) → SlotHasForm slot → SlotHasForm (slot_asking o x slot)
  asking None x slot up has = has
  asking (Some kind) x slot up has = up

  struck-slot : (x : ℕ) (slot : Option RequestValue) → SlotHasForm slot → SlotHasForm (slot_struck x slot)
  struck-slot x slot has = by (slot_has ReadTx x slot) where
    by : (b : Bool) → SlotHasForm (cond b None slot)
    by true = tt
    by false = has

  asked-lost : (o : Option LeafEntry) → IfSome (asked_by asked_when_lost o) (λ kind. goes_up kind ≡ true)
  asked-lost None = tt
  asked-lost (Some e) = by e.state where
    by : (s : LeafState) → IfSome (asked_when_lost s) (λ kind. goes_up kind ≡ true)
    by LeafState.Shared = tt
    by LeafState.Exclusive = tt
    by LeafState.Waiting = refl
    by LeafState.Reading = tt
    by LeafState.ReadingWaiting = tt

  asked-data : (o : Option LeafEntry) → IfSome (asked_by asked_with_data o) (λ kind. goes_up kind ≡ true)
  asked-data None = tt
  asked-data (Some e) = by e.state where
    by : (s : LeafState) → IfSome (asked_with_data s) (λ kind. goes_up kind ≡ true)
    by LeafState.Shared = tt
    by LeafState.Exclusive = tt
    by LeafState.Waiting = tt
    by LeafState.Reading = tt
    by LeafState.ReadingWaiting = refl

  -- ---- the words of each fate; w is the width that the leaf knows

  module _ (w : ℕ) (is : w ≡ width) where
    pub blank-here : AreWords width (blank w)
    blank-here = subst (λ n. AreWords n (blank w)) is (blank-words w)

    in-state : (state : LeafState) (words : List ℕ) → AreWords width words → AreWords width (words_in state w words)
    in-state state words are = by (is_reading state) where
      by : (b : Bool) → AreWords width (cond b (blank w) words)
      by true = blank-here
      by false = are

    by-table : (words : List ℕ) (o : Option LeafState) → AreWords width words → FateHasForm (fate_by w words o)
    by-table words None are = tt
    by-table words (Some state) are = in-state state words are

    by-loss : (words : List ℕ) (o : Option LeafState) → AreWords width words → FateHasForm (fate_by_loss w words o)
    by-loss words None are = tt
    by-loss words (Some state) are = in-state state words are

    fate-lost : (o : Option LeafEntry) → EntryHasForm o → FateHasForm (fate_when_lost w o)
    fate-lost None has = tt
    fate-lost (Some e) has = by-loss e.words (state_lost e.state) has

    fate-data : (words : List ℕ) (o : Option LeafEntry) → AreWords width words → FateHasForm (fate_with_data w words o)
    fate-data words None are = tt
    fate-data words (Some e) are = by-table words (state_with_data e.state) are

    fate-exclusive : (o : Option LeafEntry) → EntryHasForm o → FateHasForm (fate_with_exclusive w o)
    fate-exclusive None has = tt
    fate-exclusive (Some e) has = by-table e.words (state_with_exclusive e.state) has

    fate-answering : (o : Option LeafEntry) → EntryHasForm o → FateHasForm (fate_answering w o)
    fate-answering None has = tt
    fate-answering (Some e) has = by-table e.words (state_answered e.state) has

  pub entering : (words : List ℕ) (o : Option ℕ) → AreWords width words → FateHasForm (enters_free LeafState.Exclusive words o)
  entering words None are = tt
  entering words (Some way) are = are

  fate-inject : (sizes : LeafSizes) → sizes.width ≡ width → (x : ℕ) (words : List ℕ) (ways : List (Option WayValue)) (o : Option LeafEntry) → AreWords width words → FateHasForm (fate_with_inject sizes x words ways o)
  fate-inject sizes is x words ways None are = entering words (free_way sizes x ways) are
  fate-inject sizes is x words ways (Some e) are = by-table sizes.width is words (state_with_inject e.state) are

  replied : (x : ℕ) (o : Option LeafEntry) → EntryHasForm o → AllByRecursion (CopyHasForm width) (reply_of x o)
  replied x None has = tt
  replied x (Some e) has = by (state_answered e.state) where
    by : (o : Option LeafState) → AllByRecursion (CopyHasForm width) (reply_by x e.words o)
    by None = tt
    by (Some state) = (has, tt)

  -- ---- what it is told, and what is taken

  module _ (most : ℕ) (v : LeafValue) (has : LeafHasForm width most v) (x : ℕ) where
    entry-here : EntryHasForm (leaf_entry x v)
    entry-here = entry-form x v.ways v.buffer has.ways has.buffer

    ways-here : (f : Fate) → FateHasForm f → AllByRecursion (WayHasForm width) (ways_after x f v.ways)
    ways-here f is = ways-fated x f v.ways is has.ways

    buffer-here : (f : Fate) → FateHasForm f → AllByRecursion (BufferHasForm width) (buffer_after x f v.ways v.buffer)
    buffer-here f is = buffer-fated x f v.ways v.buffer is has.buffer

    pub lose-form : LeafHasForm width most (leaf_lose x v)
    unfolding leaf_lose
    lose-form =
        let fate = fate-lost v.sizes.width has.sizes (leaf_entry x v) entry-here in
        record {
          number = has.number;
          sizes = has.sizes;
          hart = has.hart;
          done = has.done;
          ways = ways-here (fate_when_lost v.sizes.width (leaf_entry x v)) fate;
          buffer = buffer-here (fate_when_lost v.sizes.width (leaf_entry x v)) fate;
          slot = asking (asked_by asked_when_lost (leaf_entry x v)) x v.slot (asked-lost (leaf_entry x v)) has.slot;
          replies = has.replies;
        }

    pub take_data-form : (words : List ℕ) → AreWords width words → LeafHasForm width most (leaf_take_data x words v)
    unfolding leaf_take_data
    take_data-form words are =
        let fate = fate-data v.sizes.width has.sizes words (leaf_entry x v) are in
        record {
          number = has.number;
          sizes = has.sizes;
          hart = has.hart;
          done = has.done;
          ways = ways-here (fate_with_data v.sizes.width words (leaf_entry x v)) fate;
          buffer = buffer-here (fate_with_data v.sizes.width words (leaf_entry x v)) fate;
          slot = asking (asked_by asked_with_data (leaf_entry x v)) x v.slot (asked-data (leaf_entry x v)) has.slot;
          replies = has.replies;
        }

    pub take_exclusive-form : LeafHasForm width most (leaf_take_exclusive x v)
    unfolding leaf_take_exclusive
    take_exclusive-form =
        let fate = fate-exclusive v.sizes.width has.sizes (leaf_entry x v) entry-here in
        record {
          number = has.number;
          sizes = has.sizes;
          hart = has.hart;
          done = has.done;
          ways = ways-here (fate_with_exclusive v.sizes.width (leaf_entry x v)) fate;
          buffer = buffer-here (fate_with_exclusive v.sizes.width (leaf_entry x v)) fate;
          slot = has.slot;
          replies = has.replies;
        }

    pub answer-form : LeafHasForm width most (leaf_answer x v)
    unfolding leaf_answer
    answer-form =
        let fate = fate-answering v.sizes.width has.sizes (leaf_entry x v) entry-here in
        record {
          number = has.number;
          sizes = has.sizes;
          hart = has.hart;
          done = has.done;
          ways = ways-here (fate_answering v.sizes.width (leaf_entry x v)) fate;
          buffer = buffer-here (fate_answering v.sizes.width (leaf_entry x v)) fate;
          slot = has.slot;
          replies = all-joined (CopyHasForm width) v.replies (reply_of x (leaf_entry x v)) has.replies (replied x (leaf_entry x v) entry-here);
        }

    pub take_inject-form : (words : List ℕ) → AreWords width words → LeafHasForm width most (leaf_take_inject x words v)
    unfolding leaf_take_inject
    take_inject-form words are =
        let fate = fate-inject v.sizes has.sizes x words v.ways (leaf_entry x v) are in
        record {
          number = has.number;
          sizes = has.sizes;
          hart = has.hart;
          done = has.done;
          ways = ways-here (fate_with_inject v.sizes x words v.ways (leaf_entry x v)) fate;
          buffer = buffer-here (fate_with_inject v.sizes x words v.ways (leaf_entry x v)) fate;
          slot = struck-slot x v.slot has.slot;
          replies = has.replies;
        }

    pub give_up-form : LeafHasForm width most (leaf_give_up x v)
    give_up-form = record {
      number = has.number;
      sizes = has.sizes;
      hart = has.hart;
      done = has.done;
      ways = ways-here ends tt;
      buffer = buffer-here ends tt;
      slot = has.slot;
      replies = has.replies;
    }
