-- The words of a checkpoint for a hart, a leaf, a directory, the top, a bus's traffic and an operation.
-- Letters: v is a leaf, d a directory, x an item, e an entry.
-- To be believed: it is the written format.
use Rattle.std.specs.Prelude.{ℕ, ◌+◌, Bool, true, false, ◌||◌, List, [], ◌∷◌, ◌++◌, length, drop, count_by}
use Rattle.std.specs.Prelude.{filter_map, option_map, Option, Some, None, if◌then◌else◌}
use Rattle.std.specs.List.{flat_map, range_with_len}
use Rattle.state_words.specs.DdmTypes.declared.operations.Op.{Op}
use Rattle.state_words.specs.TreeModel.declared.Traffic.{Traffic}
use Rattle.state_words.specs.TreeModel.State.Values.{RequestValue, CopyValue, DownValue, WayValue, BufferValue}
use Rattle.state_words.specs.TreeModel.State.Values.{LeafValue, Note, no_note, local, up_read, up_erase, DirItem}
use Rattle.state_words.specs.TreeModel.State.Values.{DirValue}
use Rattle.state_words.specs.TreeModel.State.Kinds.{kind_number}
use Rattle.state_words.specs.TreeModel.State.States.{is_held}
use Rattle.state_words.specs.TreeModel.State.Leaf.{way_at, item_in_way}
use Rattle.state_words.specs.TreeModel.State.Directory.{is_top}
use Rattle.state_words.specs.Numbers.{hold_number, note_words, flag_number, state_number, slot_words, reserved_word}
use Rattle.state_words.specs.Numbers.{halt_words, effect_words, stamp_words, key_words}

-- how many there are, and then the words of each
abbrev pub counted : {X : Type 0} → (X → List ℕ) → List X → List ℕ
counted words xs = length xs ∷ flat_map words xs

-- ---- a hart: its registers but x0, its pc, how many instructions it has completed, and why it stopped

abbrev pub hart_words : LeafValue → List ℕ
hart_words v = drop 1 v.hart.registers ++ v.hart.pc ∷ v.done ∷ halt_words v.hart.halt

-- ---- a leaf

-- an entry that stands in a way, with its item
pub record StandingValue : Type 0 where
  pub item : ℕ
  pub entry : WayValue

abbrev pub standing_words : StandingValue → List ℕ
standing_words s = s.item ∷ s.entry.way ∷ state_number s.entry.state ∷ s.entry.words

module _ (sets : ℕ) (ways : List (Option WayValue)) where
  abbrev pub standing_of : Option ℕ → Option StandingValue
  standing_of None = None
  standing_of (Some x) = option_map (λ e. record { item = x; entry = e }) (way_at x ways)

  -- the entry in a way of a set
  unfoldable pub standing_at : ℕ → ℕ → Option StandingValue
  standing_at set way = standing_of (item_in_way sets set way ways)

  -- the entries in so many ways of a set
  unfoldable pub standing_in : ℕ → ℕ → List StandingValue
  standing_in way_count set = filter_map (standing_at set) (range_with_len 0 way_count)

  -- the entries in ways, by set and then by way
  unfoldable pub standing : ℕ → List StandingValue
  standing way_count = flat_map (standing_in way_count) (range_with_len 0 sets)

abbrev pub buffer_words : BufferValue → List ℕ
buffer_words e = e.item ∷ state_number e.state ∷ e.words

abbrev pub item_and_words : CopyValue → List ℕ
item_and_words c = c.item ∷ c.words

-- the reservation, the slot, the entries in ways, the buffer and the replies
unfoldable pub leaf_words : LeafValue → List ℕ
leaf_words v =
    reserved_word v.reservation
    ∷ slot_words v.slot ++ counted standing_words (standing v.sizes.sets v.ways v.sizes.way_count)
    ++ counted buffer_words v.buffer
    ++ counted item_and_words v.replies

-- ---- a directory

abbrev pub is_noted : Note → Bool
is_noted no_note = false
is_noted (local first joined) = true
is_noted (up_read first joined) = true
is_noted (up_erase child) = true

-- A directory has a record of each item that it holds, that has a note or that it answers for; the top, which holds every item and
-- answers for none, of each that has a note.
abbrev pub is_recorded : Bool → DirItem → Bool
is_recorded true i = is_noted i.note
is_recorded false i = is_held i.hold || (is_noted i.note || i.answering)

abbrev pub record_words : ℕ → DirItem → List ℕ
record_words x i = x ∷ hold_number i.hold ∷ note_words i.note ++ flag_number i.answering ∷ []

module _ (top : Bool) where
  -- the record of an item, if there is one
  abbrev pub record_of : ℕ → DirItem → List ℕ
  record_of x i = if is_recorded top i then record_words x i else []

  -- the records, where the first item is x
  unfoldable pub records_from : ℕ → List DirItem → List ℕ
  records_from x [] = []
  records_from x (i ∷ more) = record_of x i ++ records_from (x + 1) more

  -- how many records there are, and the records
  unfoldable pub records : List DirItem → List ℕ
  records items = count_by (is_recorded top) items ∷ records_from 0 items

abbrev pub down_words : DownValue → List ℕ
down_words e = kind_number e.kind ∷ e.item ∷ stamp_words e.stamp ++ e.words

abbrev pub request_words : RequestValue → List ℕ
request_words r = kind_number r.kind ∷ r.item ∷ []

-- the count, the epoch, the records of items, the down list, the requests, the replies, the parked copies and how many places are
-- reserved
unfoldable pub dir_words : DirValue → List ℕ
dir_words d =
    d.count ∷ stamp_words d.epoch ++ records (is_top d) d.items ++ counted down_words d.down ++ counted request_words d.requests
    ++ counted item_and_words d.replies ++ counted item_and_words d.parked ++ d.reserved ∷ []

-- ---- what a machine counts and keeps

abbrev pub traffic_words : Traffic → List ℕ
traffic_words t = t.reads ∷ t.copies ∷ t.erases ∷ t.exclusives ∷ t.outs ∷ t.injects ∷ []

abbrev pub op_words : Op → List ℕ
op_words op = key_words op.key ++ op.hart ∷ op.pc ∷ effect_words op.effect
