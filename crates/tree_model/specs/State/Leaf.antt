-- A leaf: its attraction memory, buffer, slot, replies and reservation, and what the bus tells it.
-- Letters: v is a leaf, e an entry, x and y items, r a request or a reservation.
-- To be believed: it is what the machine is.
use Rattle.std.specs.Prelude.{ℕ, ◌%◌, Bool, false, not, ◌&&◌, ◌||◌, nat_eq, nat_le, List, [], ◌∷◌, ◌++◌, map, length}
use Rattle.std.specs.Prelude.{replicate, filter, find, position, Option, Some, None, is_some, is_none, option_map}
use Rattle.std.specs.Prelude.{slice_index_or, slice_set, if◌then◌else◌}
use Rattle.std.specs.List.{range_with_len}
use Rattle.tree_model.specs.DdmTypes.declared.answers.TxKind.{TxKind}
use Rattle.tree_model.specs.DdmTypes.declared.answers.TxKind.TheVariants.{ReadTx}
use Rattle.tree_model.specs.DdmTypes.declared.sizes.Hold.{Hold}
use Rattle.tree_model.specs.DdmTypes.declared.sizes.LeafState.{LeafState}
use Rattle.flat_model.specs.Flat.{has_reserved}
use Rattle.tree_model.specs.declared.LeafSpot.{LeafSpot}
use Rattle.tree_model.specs.State.Lists.{find_from, first_some, names_item, chosen}
use Rattle.tree_model.specs.State.Kinds.{is_kind}
use Rattle.tree_model.specs.State.States.{entry_hold, state_lost, asked_when_lost, state_with_data, asked_with_data}
use Rattle.tree_model.specs.State.States.{state_with_exclusive, state_with_inject, state_answered, is_waiting}
use Rattle.tree_model.specs.State.States.{is_reading, may_leave}
use Rattle.tree_model.specs.State.Values.{RequestValue, CopyValue, WayValue, BufferValue, LeafSizes, LeafValue}

-- words that are all 0
abbrev pub blank : ℕ → List ℕ
blank width = replicate width 0

-- ---- requests and copies

abbrev pub is_request : TxKind → ℕ → RequestValue → Bool
is_request kind x r = is_kind kind r.kind && nat_eq x r.item

-- the slot holds a request of this kind for the item
abbrev pub slot_has : TxKind → ℕ → Option RequestValue → Bool
slot_has kind x None = false
slot_has kind x (Some r) = is_request kind x r

abbrev pub copy_item : CopyValue → ℕ
copy_item c = c.item

abbrev pub is_copy : ℕ → CopyValue → Bool
is_copy x c = names_item copy_item x c

abbrev pub copy_words : CopyValue → List ℕ
copy_words c = c.words

-- the words of each copy of the item in a list, in its order
unfoldable pub words_of_item : ℕ → List CopyValue → List (List ℕ)
words_of_item x cs = map copy_words (filter (is_copy x) cs)

-- ---- the entry of an item, in a way or in the buffer

pub record LeafEntry : Type 0 where
  pub state : LeafState
  pub words : List ℕ

abbrev pub way_at : ℕ → List (Option WayValue) → Option WayValue
way_at x ways = slice_index_or ways x None

abbrev pub buffer_item : BufferValue → ℕ
buffer_item e = e.item

abbrev pub is_buffered : ℕ → BufferValue → Bool
is_buffered x e = names_item buffer_item x e

abbrev pub buffered : ℕ → List BufferValue → Option BufferValue
buffered x buffer = find (is_buffered x) buffer

abbrev pub way_entry : WayValue → LeafEntry
way_entry e = record { state = e.state; words = e.words }

abbrev pub buffer_entry : BufferValue → LeafEntry
buffer_entry e = record { state = e.state; words = e.words }

unfoldable pub entry_at : ℕ → List (Option WayValue) → List BufferValue → Option LeafEntry
entry_at x ways buffer = first_some (option_map way_entry (way_at x ways)) (option_map buffer_entry (buffered x buffer))

abbrev pub leaf_entry : ℕ → LeafValue → Option LeafEntry
leaf_entry x v = entry_at x v.ways v.buffer

abbrev pub entry_state : LeafEntry → LeafState
entry_state e = e.state

abbrev pub state_at : ℕ → LeafValue → Option LeafState
state_at x v = option_map entry_state (leaf_entry x v)

-- the words of an entry; an item without one has none
abbrev pub entry_words : Option LeafEntry → List ℕ
entry_words None = []
entry_words (Some e) = e.words

abbrev pub way_spot : WayValue → LeafSpot
way_spot e = LeafSpot.Way e.way

-- where the entry stands
abbrev pub spot_at : ℕ → List (Option WayValue) → List BufferValue → Option LeafSpot
spot_at x ways buffer =
    first_some (option_map way_spot (way_at x ways))
    (option_map (λ k. LeafSpot.Buffer k) (position (is_buffered x) buffer))

-- ---- sets and ways: the set of an item is its number modulo the number of sets

-- the item y, if it has this entry, stands in this way of x's set
abbrev pub stands_in : ℕ → ℕ → ℕ → ℕ → Option WayValue → Bool
stands_in sets x way y None = false
stands_in sets x way y (Some e) = nat_eq (y % sets) (x % sets) && nat_eq e.way way

-- the item in a way of x's set
unfoldable pub item_in_way : ℕ → ℕ → ℕ → List (Option WayValue) → Option ℕ
item_in_way sets x way ways = find_from (stands_in sets x way) 0 ways

-- the lowest free way of x's set
unfoldable pub free_way : LeafSizes → ℕ → List (Option WayValue) → Option ℕ
free_way sizes x ways = find (λ way. is_none (item_in_way sizes.sets x way ways)) (range_with_len 0 sizes.way_count)

-- ---- what becomes of an item's entry

-- it stays as it is; it ends; it gets another state and other words where it stands; or it comes into a way of its set
pub data Fate : Type 0 where
  stays : Fate
  ends : Fate
  becomes : LeafState → List ℕ → Fate
  enters : ℕ → LeafState → List ℕ → Fate

-- the words of an entry in this state: one that waits for data has none
abbrev pub words_in : LeafState → ℕ → List ℕ → List ℕ
words_in state width words = if is_reading state then blank width else words

abbrev pub way_with : LeafState → List ℕ → WayValue → WayValue
way_with state words e = record e { state = state; words = words }

abbrev pub buffer_with : ℕ → LeafState → List ℕ → BufferValue → BufferValue
buffer_with x state words e = if is_buffered x e then record e { state = state; words = words } else e

abbrev pub ways_after : ℕ → Fate → List (Option WayValue) → List (Option WayValue)
ways_after x stays ways = ways
ways_after x ends ways = slice_set ways x None
ways_after x (becomes state words) ways = slice_set ways x (option_map (way_with state words) (way_at x ways))
ways_after x (enters way state words) ways = slice_set ways x (Some (record { way = way; state = state; words = words }))

-- an entry in the buffer is changed only where the item stands in no way
abbrev pub buffer_after : ℕ → Fate → List (Option WayValue) → List BufferValue → List BufferValue
buffer_after x stays ways buffer = buffer
buffer_after x ends ways buffer = filter (λ e. not (is_buffered x e)) buffer
buffer_after x (becomes state words) ways buffer = if is_some (way_at x ways) then buffer else map (buffer_with x state words) buffer
buffer_after x (enters way state words) ways buffer = buffer

abbrev pub with_fate : ℕ → Fate → LeafValue → LeafValue
with_fate x f v = record v { ways = ways_after x f v.ways; buffer = buffer_after x f v.ways v.buffer }

-- into the lowest free way, if there is one
abbrev pub enters_free : LeafState → List ℕ → Option ℕ → Fate
enters_free state words None = stays
enters_free state words (Some way) = enters way state words

-- ---- what the bus sees of a leaf

unfoldable pub leaf_hold : ℕ → LeafValue → Hold
leaf_hold x v = entry_hold (state_at x v)

-- its read of the item isn't granted yet
abbrev pub leaf_waits : ℕ → LeafValue → Bool
leaf_waits x v = slot_has ReadTx x v.slot

unfoldable pub leaf_room : ℕ → LeafValue → Bool
leaf_room x v = leaf_waits x v || (is_none (leaf_entry x v) && is_some (free_way v.sizes x v.ways))

abbrev pub leaf_replies_full : LeafValue → Bool
leaf_replies_full v = nat_le v.sizes.reply_room (length v.replies)

abbrev pub buffer_full : LeafValue → Bool
buffer_full v = nat_le v.sizes.buffer_room (length v.buffer)

abbrev pub may_leave_buffer : BufferValue → Bool
may_leave_buffer e = may_leave e.state

-- the item of entry `choice mod m` of the m entries of the buffer in S or E
unfoldable pub leaf_leaving : ℕ → List BufferValue → Option ℕ
leaf_leaving choice buffer = chosen buffer_item choice (filter may_leave_buffer buffer)

-- ---- an entry that waits for a transaction

abbrev pub way_waits : ℕ → Option WayValue → Bool
way_waits x None = false
way_waits x (Some e) = is_waiting e.state

abbrev pub buffer_waits : BufferValue → Bool
buffer_waits e = is_waiting e.state

-- the first item whose entry waits
unfoldable pub waiting_item : List (Option WayValue) → List BufferValue → Option ℕ
waiting_item ways buffer = first_some (find_from way_waits 0 ways) (option_map buffer_item (find buffer_waits buffer))

-- ---- what the bus tells a leaf

-- what is asked for goes to the slot
abbrev pub slot_asking : Option TxKind → ℕ → Option RequestValue → Option RequestValue
slot_asking None x slot = slot
slot_asking (Some kind) x slot = Some (record { kind = kind; item = x })

-- a read of the item that isn't granted yet is struck
abbrev pub slot_struck : ℕ → Option RequestValue → Option RequestValue
slot_struck x slot = if slot_has ReadTx x slot then None else slot

-- a reservation on the item ends
abbrev pub unreserved : ℕ → Option ℕ → Option ℕ
unreserved x r = if has_reserved r x then None else r

-- with a table of what a state becomes; without a row in it the entry stays
abbrev pub fate_by : ℕ → List ℕ → Option LeafState → Fate
fate_by width words None = stays
fate_by width words (Some state) = becomes state (words_in state width words)

abbrev pub fate_by_loss : ℕ → List ℕ → Option LeafState → Fate
fate_by_loss width words None = ends
fate_by_loss width words (Some state) = becomes state (words_in state width words)

abbrev pub fate_when_lost : ℕ → Option LeafEntry → Fate
fate_when_lost width None = stays
fate_when_lost width (Some e) = fate_by_loss width e.words (state_lost e.state)

-- an item without an entry asks for nothing
abbrev pub asked_by : (LeafState → Option TxKind) → Option LeafEntry → Option TxKind
asked_by table None = None
asked_by table (Some e) = table e.state

-- Told to lose the item: S and E end; W becomes B and asks to read again; R and B stay. A reservation on it ends.
unfoldable pub leaf_lose : ℕ → LeafValue → LeafValue
leaf_lose x v =
    record (with_fate x (fate_when_lost v.sizes.width (leaf_entry x v)) v) {
      slot = slot_asking (asked_by asked_when_lost (leaf_entry x v)) x v.slot;
      reservation = unreserved x v.reservation;
    }

abbrev pub fate_with_data : ℕ → List ℕ → Option LeafEntry → Fate
fate_with_data width words None = stays
fate_with_data width words (Some e) = fate_by width words (state_with_data e.state)

-- Told data: R becomes S; B becomes W and asks to erase.
unfoldable pub leaf_take_data : ℕ → List ℕ → LeafValue → LeafValue
leaf_take_data x words v =
    record (with_fate x (fate_with_data v.sizes.width words (leaf_entry x v)) v)
    { slot = slot_asking (asked_by asked_with_data (leaf_entry x v)) x v.slot }

abbrev pub fate_with_exclusive : ℕ → Option LeafEntry → Fate
fate_with_exclusive width None = stays
fate_with_exclusive width (Some e) = fate_by width e.words (state_with_exclusive e.state)

-- Told exclusive: W becomes E.
unfoldable pub leaf_take_exclusive : ℕ → LeafValue → LeafValue
leaf_take_exclusive x v = with_fate x (fate_with_exclusive v.sizes.width (leaf_entry x v)) v

abbrev pub fate_answering : ℕ → Option LeafEntry → Fate
fate_answering width None = stays
fate_answering width (Some e) = fate_by width e.words (state_answered e.state)

abbrev pub reply_by : ℕ → List ℕ → Option LeafState → List CopyValue
reply_by x words None = []
reply_by x words (Some state) = record { item = x; words = words } ∷ []

-- what goes to the replies: the words of an entry that has some
abbrev pub reply_of : ℕ → Option LeafEntry → List CopyValue
reply_of x None = []
reply_of x (Some e) = reply_by x e.words (state_answered e.state)

-- Told to answer a read: the words go to its replies; E becomes S, and S and W stay.
unfoldable pub leaf_answer : ℕ → LeafValue → LeafValue
leaf_answer x v =
    record (with_fate x (fate_answering v.sizes.width (leaf_entry x v)) v)
    { replies = v.replies ++ reply_of x (leaf_entry x v) }

abbrev pub fate_with_inject : LeafSizes → ℕ → List ℕ → List (Option WayValue) → Option LeafEntry → Fate
fate_with_inject sizes x words ways None = enters_free LeafState.Exclusive words (free_way sizes x ways)
fate_with_inject sizes x words ways (Some e) = fate_by sizes.width words (state_with_inject e.state)

-- Told inject: R and B become E, and a read that isn't granted yet is struck; with no entry the item comes, E, into the
-- lowest free way.
unfoldable pub leaf_take_inject : ℕ → List ℕ → LeafValue → LeafValue
leaf_take_inject x words v =
    record (with_fate x (fate_with_inject v.sizes x words v.ways (leaf_entry x v)) v)
    { slot = slot_struck x v.slot }

-- the copy leaves, and a reservation on it ends
abbrev pub leaf_give_up : ℕ → LeafValue → LeafValue
leaf_give_up x v = record (with_fate x ends v) { reservation = unreserved x v.reservation }
