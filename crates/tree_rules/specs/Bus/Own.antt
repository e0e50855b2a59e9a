-- What a leaf, a directory and the top keep by themselves, whatever stands around them, of n items.
-- To be believed where a rule is relied on; the order of the witness needs no reader here.
use Rattle.std.specs.Prelude.{ℕ, ◌^◌, Bool, true, false, not, ◌&&◌, nat_eq, nat_lt, List, [], ◌∷◌, map, Option, Some, None, is_none, IsTrue}
use Rattle.std.specs.List.{list_all, range_with_len}
use Rattle.tree_rules.specs.DdmTypes.declared.answers.TxKind.{TxKind}
use Rattle.tree_rules.specs.DdmTypes.declared.answers.TxKind.TheVariants.{ReadTx, EraseTx}
use Rattle.tree_rules.specs.DdmTypes.declared.sizes.LeafState.{LeafState}
use Rattle.tree_rules.specs.DdmTypes.Keys.{stamp_numbers}
use Rattle.tree_rules.specs.FlatModel.Flat.{has_reserved}
use Rattle.tree_model.specs.State.Lists.{all_from, has_some}
use Rattle.tree_model.specs.State.Kinds.{brings_copy}
use Rattle.tree_model.specs.State.States.{is_waiting, is_reading, is_upgrading, is_exclusive}
use Rattle.tree_model.specs.State.Values.{RequestValue, CopyValue, DownValue, WayValue, BufferValue, LeafValue, Note}
use Rattle.tree_model.specs.State.Values.{no_note, local, up_read, up_erase, DirItem, DirValue}
use Rattle.tree_model.specs.State.Leaf.{copy_item, buffer_item, way_at, state_at, stands_in, waiting_item}
use Rattle.tree_model.specs.State.Directory.{in_set}
use Rattle.tree_model.specs.State.Rooms.{leaf_within, dir_within}
use Rattle.tree_model.specs.State.Shape.{are_distinct}
use Rattle.tree_rules.specs.Bus.Item.{implies}

abbrev pub are_zero : List ℕ → Bool
are_zero ns = list_all (nat_eq 0) ns

-- a copy of one of n items
abbrev pub copy_fits : ℕ → CopyValue → Bool
copy_fits n c = nat_lt c.item n

-- ---- a leaf

-- the words of an entry are 0 where it waits for data
abbrev pub words_suit : LeafState → List ℕ → Bool
words_suit state words = implies (is_reading state) (are_zero words)

abbrev pub way_fits : ℕ → Option WayValue → Bool
way_fits way_count None = true
way_fits way_count (Some e) = nat_lt e.way way_count && words_suit e.state e.words

abbrev pub buffer_fits : ℕ → LeafValue → BufferValue → Bool
buffer_fits n v e = nat_lt e.item n && (is_none (way_at e.item v.ways) && words_suit e.state e.words)

-- no other item than x stands in the way of x's set that x has
abbrev pub same_if_there : ℕ → ℕ → ℕ → ℕ → Option WayValue → Bool
same_if_there sets x way y o = implies (stands_in sets x way y o) (nat_eq x y)

abbrev pub has_way_alone : LeafValue → ℕ → Option WayValue → Bool
has_way_alone v x None = true
has_way_alone v x (Some e) = all_from (same_if_there v.sizes.sets x e.way) 0 v.ways

abbrev pub state_waits : Option LeafState → Bool
state_waits None = false
state_waits (Some s) = is_waiting s

-- where an item's entry waits for a transaction, it is the first one that does
abbrev pub waits_alone : LeafValue → ℕ → Bool
waits_alone v x = implies (state_waits (state_at x v)) (has_reserved (waiting_item v.ways v.buffer) x)

-- a read of an item whose entry waits for data, an erase of one whose entry waits to be exclusive
abbrev pub request_suits : TxKind → Option LeafState → Bool
request_suits ReadTx (Some s) = is_reading s
request_suits EraseTx (Some s) = is_upgrading s
request_suits _ _ = false

abbrev pub slot_suits : LeafValue → Option RequestValue → Bool
slot_suits v None = true
slot_suits v (Some r) = request_suits r.kind (state_at r.item v)

abbrev pub reserves_below : ℕ → Option ℕ → Bool
reserves_below n None = true
reserves_below n (Some x) = nat_lt x n

pub data LeafRule : Type 0 where
  -- there is a set, and a way in it
  has_ways : LeafRule
  -- each item has a place for its entry, and the buffer and the replies are within their room
  leaf_lists : LeafRule
  -- a way is one of its set, and its words are 0 where it waits for data
  ways_fit : LeafRule
  -- no two items stand in one way of one set
  ways_alone : LeafRule
  -- an entry of the buffer has an item that stands in no way, and its words are 0 where it waits for data
  buffer_fit : LeafRule
  -- no item stands in the buffer twice
  buffered_once : LeafRule
  -- an item's entry that waits for a transaction is the only one that does
  one_waiting : LeafRule
  -- the slot has what the waiting entry wants
  slot_fits : LeafRule
  leaf_replies : LeafRule
  reservation_fits : LeafRule

abbrev pub leaf_test : LeafRule → ℕ → LeafValue → Bool
leaf_test has_ways n v = nat_lt 0 v.sizes.sets && nat_lt 0 v.sizes.way_count
leaf_test leaf_lists n v = leaf_within n v
leaf_test ways_fit n v = list_all (way_fits v.sizes.way_count) v.ways
leaf_test ways_alone n v = all_from (has_way_alone v) 0 v.ways
leaf_test buffer_fit n v = list_all (buffer_fits n v) v.buffer
leaf_test buffered_once n v = are_distinct (map buffer_item v.buffer)
leaf_test one_waiting n v = list_all (waits_alone v) (range_with_len 0 n)
leaf_test slot_fits n v = slot_suits v v.slot
leaf_test leaf_replies n v = list_all (copy_fits n) v.replies
leaf_test reservation_fits n v = reserves_below n v.reservation

abbrev pub leaf_rules : List LeafRule
leaf_rules =
    has_ways ∷ leaf_lists ∷ ways_fit ∷ ways_alone ∷ buffer_fit ∷ buffered_once ∷ one_waiting ∷ slot_fits
    ∷ leaf_replies ∷ reservation_fits ∷ []

abbrev pub leaf_holds : ℕ → LeafValue → Bool
leaf_holds n v = list_all (λ r. leaf_test r n v) leaf_rules

pub record IsLeafOk (n : ℕ) (v : LeafValue) : Type 0 where
  pub each : (r : LeafRule) → IsTrue (leaf_test r n v)

-- ---- a directory

-- an entry of one of n items, whose words are 0 where it brings no copy
abbrev pub down_fits : ℕ → DownValue → Bool
down_fits n e = nat_lt e.item n && implies (not (brings_copy e.kind)) (are_zero e.words)

abbrev pub request_fits : ℕ → RequestValue → Bool
request_fits n r = nat_lt r.item n

-- a note names children that there are, and the first reader hasn't joined itself
abbrev pub readers_fit : ℕ → ℕ → ℕ → Bool
readers_fit kids first joined = nat_lt first kids && (nat_lt joined (2 ^ kids) && not (in_set first joined))

abbrev pub note_fits : ℕ → Note → Bool
note_fits kids no_note = true
note_fits kids (local first joined) = readers_fit kids first joined
note_fits kids (up_read first joined) = readers_fit kids first joined
note_fits kids (up_erase d) = nat_lt d kids

abbrev pub item_fits : ℕ → DirItem → Bool
item_fits kids i = note_fits kids i.note

pub data DirRule : Type 0 where
  -- it keeps something of each item, and its lists are within their room
  dir_lists : DirRule
  -- each note names children that there are, and the first reader hasn't joined itself
  notes_fit : DirRule
  -- what comes down is of one of the items, and has words only where it brings a copy
  down_entries : DirRule
  dir_requests : DirRule
  dir_replies : DirRule
  parked_fit : DirRule
  -- no item is parked twice
  parked_once : DirRule

-- over this many children
abbrev pub dir_test : DirRule → ℕ → ℕ → DirValue → Bool
dir_test dir_lists n kids d = dir_within n d
dir_test notes_fit n kids d = list_all (item_fits kids) d.items
dir_test down_entries n kids d = list_all (down_fits n) d.down
dir_test dir_requests n kids d = list_all (request_fits n) d.requests
dir_test dir_replies n kids d = list_all (copy_fits n) d.replies
dir_test parked_fit n kids d = list_all (copy_fits n) d.parked
dir_test parked_once n kids d = are_distinct (map copy_item d.parked)

abbrev pub dir_rules : List DirRule
dir_rules = dir_lists ∷ notes_fit ∷ down_entries ∷ dir_requests ∷ dir_replies ∷ parked_fit ∷ parked_once ∷ []

abbrev pub dir_holds : ℕ → ℕ → DirValue → Bool
dir_holds n kids d = list_all (λ r. dir_test r n kids d) dir_rules

pub record IsDirOk (n kids : ℕ) (d : DirValue) : Type 0 where
  pub each : (r : DirRule) → IsTrue (dir_test r n kids d)

-- ---- the top: the directory with no bus above

abbrev pub top_item : DirItem → Bool
top_item i = is_exclusive i.hold && not i.answering

abbrev pub has_no_stamp : DownValue → Bool
has_no_stamp e = are_zero (stamp_numbers 3 e.stamp)

pub data TopRule : Type 0 where
  -- its bus is bus 0, and it is the only one at level 0
  top_bus : TopRule
  top_level : TopRule
  -- it holds every item Exclusive and answers nothing
  top_items : TopRule
  -- it sends, parks and keeps places for nothing
  no_requests : TopRule
  no_replies : TopRule
  none_parked : TopRule
  no_places : TopRule
  -- it takes over no stamp, and what comes down to it carries none
  no_epoch : TopRule
  no_stamps : TopRule

abbrev pub top_test : TopRule → DirValue → Bool
top_test top_bus d = nat_eq d.bus 0
top_test top_level d = nat_eq d.level 0
top_test top_items d = list_all top_item d.items
top_test no_requests d = not (has_some d.requests)
top_test no_replies d = not (has_some d.replies)
top_test none_parked d = not (has_some d.parked)
top_test no_places d = nat_eq d.reserved 0
top_test no_epoch d = are_zero (stamp_numbers 3 d.epoch)
top_test no_stamps d = list_all has_no_stamp d.down

abbrev pub top_rules : List TopRule
top_rules = top_bus ∷ top_level ∷ top_items ∷ no_requests ∷ no_replies ∷ none_parked ∷ no_places ∷ no_epoch ∷ no_stamps ∷ []

abbrev pub top_is_ok : DirValue → Bool
top_is_ok d = list_all (λ r. top_test r d) top_rules

pub record IsTopOk (d : DirValue) : Type 0 where
  pub each : (r : TopRule) → IsTrue (top_test r d)
