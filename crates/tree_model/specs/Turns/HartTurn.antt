-- A hart's turn at its leaf: one try of its next instruction. What it comes to is one of the deeds below; a completing
-- instruction does what the flat machine's step does over the words that the leaf has.
-- Letters: v is a leaf, e an entry, x and y items, c a change.
-- To be believed: it is what the machine is.
use Rattle.std.specs.Prelude.{ℕ, ◌+◌, ◌%◌, Bool, true, false, List, [], ◌∷◌, ◌++◌, Option, Some, None, Result, Ok}
use Rattle.std.specs.Prelude.{Err, slice_set, if◌then◌else◌}
use Rattle.tree_model.specs.DdmTypes.declared.answers.TxKind.TheVariants.{ReadTx, EraseTx}
use Rattle.tree_model.specs.DdmTypes.declared.answers.BusyCause.TheVariants.{BufferFull}
use Rattle.tree_model.specs.DdmTypes.declared.answers.TurnAnswer.{TurnAnswer}
use Rattle.tree_model.specs.DdmTypes.declared.answers.TurnAnswer.TheVariants.{Retired, Issued, Waiting, Halted, Busy}
use Rattle.tree_model.specs.DdmTypes.declared.operations.HaltCause.{HaltCause}
use Rattle.tree_model.specs.DdmTypes.declared.sizes.LeafState.{LeafState}
use Rattle.tree_model.specs.DdmTypes.declared.keys.Key.{Key}
use Rattle.tree_model.specs.DdmTypes.ItemTable.{ItemTable}
use Rattle.tree_model.specs.DdmTypes.CodeMap.{CodeWord}
use Rattle.flat_model.specs.declared.Ask.{Ask}
use Rattle.flat_model.specs.Hart.{ask_of, finish_of}
use Rattle.flat_model.specs.Flat.{Stored, Change, change_by, has_reserved}
use Rattle.tree_model.specs.State.Values.{WayValue, BufferValue, LeafValue}
use Rattle.tree_model.specs.State.Leaf.{blank, LeafEntry, way_at, leaf_entry, entry_words, item_in_way, free_way}
use Rattle.tree_model.specs.State.Leaf.{becomes, enters, ways_after, buffer_after, buffer_full, waiting_item}
use Rattle.tree_model.specs.State.Leaf.{slot_asking}

-- ---- what a turn comes to

pub data Deed : Type 0 where
  -- the hart halted before
  has_halted : HaltCause → Deed
  -- an entry of this item waits for a transaction
  waits_for : ℕ → Deed
  -- the instruction halts its hart
  halts : HaltCause → Deed
  -- it completes with this change
  completes : Change → Deed
  -- the item isn't here: it is read, into this way, whose item moves to the buffer, with an entry in this state
  fetches : ℕ → LeafState → ℕ → Deed
  -- the item is here Shared, with these words, and is to be written: S becomes W, and the slot gets an erase
  upgrades : ℕ → List ℕ → Deed
  -- the item isn't here, and the buffer has no place for the one that it would replace
  finds_buffer_full : Deed

-- ---- what an instruction needs of its item

pub data Need : Type 0 where
  -- all is at hand
  no_need : Need
  -- a copy, with an entry in this state until it comes
  a_copy : ℕ → LeafState → Need
  -- that no other copy is left
  no_other_copy : ℕ → List ℕ → Need
  -- a transaction that is under way
  time : ℕ → Need

-- a load or an LR completes on any entry that has words
abbrev pub need_to_read : ℕ → Option LeafEntry → Need
need_to_read x None = a_copy x LeafState.Reading
need_to_read x (Some e) = no_need

abbrev pub need_in_state : ℕ → List ℕ → LeafState → Need
need_in_state x words LeafState.Exclusive = no_need
need_in_state x words LeafState.Shared = no_other_copy x words
need_in_state x words LeafState.Waiting = time x
need_in_state x words LeafState.Reading = time x
need_in_state x words LeafState.ReadingWaiting = time x

-- a store, an AMO, or an SC with its reservation completes on E
abbrev pub need_to_write : ℕ → Option LeafEntry → Need
need_to_write x None = a_copy x LeafState.ReadingWaiting
need_to_write x (Some e) = need_in_state x e.words e.state

-- an SC without its reservation completes, as failed
abbrev pub need_of : Ask → LeafValue → Need
need_of Ask.Plain v = no_need
need_of (Ask.Put byte) v = no_need
need_of (Ask.NeedsShared x lr) v = need_to_read x (leaf_entry x v)
need_of (Ask.NeedsExclusive x) v = need_to_write x (leaf_entry x v)
need_of (Ask.Conditional x) v = if has_reserved v.reservation x then need_to_write x (leaf_entry x v) else no_need
need_of (Ask.Halt cause) v = no_need

-- ---- what is done

-- the words that the leaf has of an item
abbrev pub words_here : LeafValue → ℕ → List ℕ
words_here v x = entry_words (leaf_entry x v)

-- what the flat machine's step does with the words and the reservation that are here
unfoldable pub change_here : List CodeWord → ItemTable → LeafValue → Result Change HaltCause
change_here code items v = change_by (ask_of code items v.hart) v.reservation (finish_of code items v.hart) (words_here v) true

abbrev pub deed_of_change : Result Change HaltCause → Deed
deed_of_change (Ok c) = completes c
deed_of_change (Err cause) = halts cause

-- the way that the victim number chooses is freed, where the buffer has a place
abbrev pub replaces : ℕ → LeafState → ℕ → Bool → Deed
replaces x state way true = finds_buffer_full
replaces x state way false = fetches x state way

-- the item takes the lowest free way of its set, or else replaces another
abbrev pub deed_to_fetch : ℕ → LeafState → ℕ → LeafValue → Option ℕ → Deed
deed_to_fetch x state victim v (Some way) = fetches x state way
deed_to_fetch x state victim v None = replaces x state (victim % v.sizes.way_count) (buffer_full v)

module _ (code : List CodeWord) (items : ItemTable) (victim : ℕ) where
  abbrev pub deed_by_need : LeafValue → Need → Deed
  deed_by_need v no_need = deed_of_change (change_here code items v)
  deed_by_need v (a_copy x state) = deed_to_fetch x state victim v (free_way v.sizes x v.ways)
  deed_by_need v (no_other_copy x words) = upgrades x words
  deed_by_need v (time x) = waits_for x

  abbrev pub deed_unless_waiting : LeafValue → Option ℕ → Deed
  deed_unless_waiting v (Some x) = waits_for x
  deed_unless_waiting v None = deed_by_need v (need_of (ask_of code items v.hart) v)

  abbrev pub deed_unless_halted : LeafValue → Option HaltCause → Deed
  deed_unless_halted v (Some cause) = has_halted cause
  deed_unless_halted v None = deed_unless_waiting v (waiting_item v.ways v.buffer)

  -- Judged in this order: halted before; an entry waits for a transaction; by what the instruction needs.
  unfoldable pub deed_of : LeafValue → Deed
  deed_of v = deed_unless_halted v v.hart.halt

-- ---- what it answers; `now` is the key of this moment

abbrev pub answer_of_deed : Key → LeafValue → Deed → TurnAnswer
answer_of_deed now v (has_halted cause) = Halted cause
answer_of_deed now v (waits_for x) = Waiting x
answer_of_deed now v (halts cause) = Halted cause
answer_of_deed now v (completes c) = Retired (record { key = now; hart = v.number; pc = v.hart.pc; effect = c.effect })
answer_of_deed now v (fetches x state way) = Issued ReadTx x
answer_of_deed now v (upgrades x words) = Issued EraseTx x
answer_of_deed now v finds_buffer_full = Busy (BufferFull v.number)

-- ---- the leaf after it

-- the words that a change stores
abbrev pub ways_stored : Option Stored → List (Option WayValue) → List (Option WayValue)
ways_stored None ways = ways
ways_stored (Some s) ways = ways_after s.item (becomes LeafState.Exclusive s.words) ways

abbrev pub buffer_stored : Option Stored → List (Option WayValue) → List BufferValue → List BufferValue
buffer_stored None ways buffer = buffer
buffer_stored (Some s) ways buffer = buffer_after s.item (becomes LeafState.Exclusive s.words) ways buffer

-- the entry of an item in a way, as one of the buffer
abbrev pub moved_entry : ℕ → Option WayValue → List BufferValue
moved_entry y None = []
moved_entry y (Some e) = record { item = y; state = e.state; words = e.words } ∷ []

-- the item that stands in a way moves to the end of the buffer
abbrev pub ways_without : Option ℕ → List (Option WayValue) → List (Option WayValue)
ways_without None ways = ways
ways_without (Some y) ways = slice_set ways y None

abbrev pub moved_to_buffer : Option ℕ → List (Option WayValue) → List BufferValue
moved_to_buffer None ways = []
moved_to_buffer (Some y) ways = moved_entry y (way_at y ways)

abbrev pub leaf_after_deed : LeafValue → Deed → LeafValue
leaf_after_deed v (has_halted cause) = v
leaf_after_deed v (waits_for x) = v
leaf_after_deed v (halts cause) = record v { hart = record v.hart { halt = Some cause } }
leaf_after_deed v (completes c) = record v {
  hart = c.after.hart;
  done = v.done + 1;
  ways = ways_stored c.stored v.ways;
  buffer = buffer_stored c.stored v.ways v.buffer;
  reservation = c.after.reserved;
}
leaf_after_deed v (fetches x state way) = record v {
  ways = ways_after x (enters way state (blank v.sizes.width)) (ways_without (item_in_way v.sizes.sets x way v.ways) v.ways);
  buffer = v.buffer ++ moved_to_buffer (item_in_way v.sizes.sets x way v.ways) v.ways;
  slot = slot_asking (Some ReadTx) x v.slot;
}
leaf_after_deed v (upgrades x words) = record v {
  ways = ways_after x (becomes LeafState.Waiting words) v.ways;
  buffer = buffer_after x (becomes LeafState.Waiting words) v.ways v.buffer;
  slot = slot_asking (Some EraseTx) x v.slot;
}
leaf_after_deed v finds_buffer_full = v

-- ---- one turn

pub record LeafOutcome : Type 0 where
  pub answer : TurnAnswer
  pub leaf : LeafValue

unfoldable pub leaf_step : List CodeWord → ItemTable → Key → ℕ → LeafValue → LeafOutcome
leaf_step code items now victim v =
    record {
      answer = answer_of_deed now v (deed_of code items victim v);
      leaf = leaf_after_deed v (deed_of code items victim v);
    }
