-- A directory: what it keeps of each item, its lists, what the bus above tells it, and what the bus below makes of it.
-- Letters: d is a directory, e an entry of its down list, x an item, c and d in notes children, s a stamp.
-- To be believed: it is what the machine is.
use Rattle.std.specs.Prelude.{ℕ, ◌+◌, ◌-◌, ◌^◌, Bool, true, false, not, ◌&&◌, ◌||◌, nat_eq, nat_le, List, [], ◌∷◌}
use Rattle.std.specs.Prelude.{◌++◌, map, length, filter, position, bit_or, Option, Some, None, slice_index_or}
use Rattle.std.specs.Prelude.{slice_set, if◌then◌else◌}
use Rattle.std.specs.Int.{bit_at}
use Rattle.tree_model.specs.DdmTypes.declared.answers.TxKind.{TxKind}
use Rattle.tree_model.specs.DdmTypes.declared.answers.TxKind.TheVariants.{ReadTx, DataTx, EraseTx, ExclusiveTx, InjectTx}
use Rattle.tree_model.specs.DdmTypes.declared.answers.PendingWhy.{PendingWhy}
use Rattle.tree_model.specs.DdmTypes.declared.sizes.Hold.{Hold}
use Rattle.tree_model.specs.DdmTypes.declared.keys.Stamp.{Stamp}
use Rattle.tree_model.specs.DdmTypes.Keys.{stamp_at}
use Rattle.tree_model.specs.State.Lists.{first_of, has_some, without_first, names_item, chosen}
use Rattle.tree_model.specs.State.Kinds.{has_kind}
use Rattle.tree_model.specs.State.States.{is_held}
use Rattle.tree_model.specs.State.Values.{RequestValue, CopyValue, DownValue, Note, no_note, local, up_read, up_erase}
use Rattle.tree_model.specs.State.Values.{DirItem, absent_item, DirValue}
use Rattle.tree_model.specs.State.Leaf.{blank, is_request, is_copy, copy_item, words_of_item}

-- the directory with no bus above
abbrev pub is_top : DirValue → Bool
is_top d = nat_eq d.level 0

-- ---- what it keeps of an item

abbrev pub dir_item : ℕ → DirValue → DirItem
dir_item x d = slice_index_or d.items x absent_item

abbrev pub dir_hold : ℕ → DirValue → Hold
dir_hold x d = (dir_item x d).hold

abbrev pub dir_note : ℕ → DirValue → Note
dir_note x d = (dir_item x d).note

abbrev pub is_answering : ℕ → DirValue → Bool
is_answering x d = (dir_item x d).answering

abbrev pub with_item : ℕ → DirItem → DirValue → DirValue
with_item x i d = record d { items = slice_set d.items x i }

abbrev pub with_hold : ℕ → Hold → DirValue → DirValue
with_hold x h d = with_item x (record (dir_item x d) { hold = h }) d

abbrev pub with_note : ℕ → Note → DirValue → DirValue
with_note x n d = with_item x (record (dir_item x d) { note = n }) d

abbrev pub with_answering : ℕ → Bool → DirValue → DirValue
with_answering x b d = with_item x (record (dir_item x d) { answering = b }) d

-- ---- notes

-- child c is in a set of children
abbrev pub in_set : ℕ → ℕ → Bool
in_set c set = nat_eq (bit_at set c) 1

-- the set with child c
abbrev pub set_with : ℕ → ℕ → ℕ
set_with c set = bit_or set (2 ^ c)

-- the note joins this child's read: that of the first reader, or one that joined it
abbrev pub is_reader : Note → ℕ → Bool
is_reader no_note c = false
is_reader (local first joined) c = nat_eq c first || in_set c joined
is_reader (up_read first joined) c = nat_eq c first || in_set c joined
is_reader (up_erase d) c = false

-- the note is this child's erase
abbrev pub is_eraser : Note → ℕ → Bool
is_eraser no_note c = false
is_eraser (local first joined) c = false
is_eraser (up_read first joined) c = false
is_eraser (up_erase d) c = nat_eq c d

abbrev pub is_local : Note → Bool
is_local no_note = false
is_local (local first joined) = true
is_local (up_read first joined) = false
is_local (up_erase d) = false

abbrev pub is_up_read : Note → Bool
is_up_read no_note = false
is_up_read (local first joined) = false
is_up_read (up_read first joined) = true
is_up_read (up_erase d) = false

abbrev pub is_up_erase : Note → Bool
is_up_erase no_note = false
is_up_erase (local first joined) = false
is_up_erase (up_read first joined) = false
is_up_erase (up_erase d) = true

-- one more child joins the read
abbrev pub joined_by : ℕ → Note → Note
joined_by c no_note = no_note
joined_by c (local first joined) = local first (set_with c joined)
joined_by c (up_read first joined) = up_read first (set_with c joined)
joined_by c (up_erase d) = up_erase d

-- the reason that a note gives
abbrev pub note_why : Note → Option PendingWhy
note_why no_note = None
note_why (local first joined) = Some (PendingWhy.Local first)
note_why (up_read first joined) = Some (PendingWhy.UpRead first)
note_why (up_erase d) = Some (PendingWhy.UpErase d)

-- ---- lists

abbrev pub down_full : DirValue → Bool
down_full d = nat_le d.sizes.down_room (length d.down)

abbrev pub requests_full : DirValue → Bool
requests_full d = nat_le d.sizes.request_room (length d.requests)

abbrev pub replies_full : DirValue → Bool
replies_full d = nat_le d.sizes.reply_room (length d.replies)

-- no place that is neither taken nor kept for an inject
abbrev pub parking_full : DirValue → Bool
parking_full d = nat_le d.sizes.parking_room (length d.parked + d.reserved)

abbrev pub entry_item : DownValue → ℕ
entry_item e = e.item

-- the entries of the item in a down list, in their order, and their kinds
unfoldable pub queue_of : ℕ → List DownValue → List DownValue
queue_of x down = filter (names_item entry_item x) down

abbrev pub entry_kind : DownValue → TxKind
entry_kind e = e.kind

abbrev pub queue_kinds : ℕ → List DownValue → List TxKind
queue_kinds x down = map entry_kind (queue_of x down)

abbrev pub request_item : RequestValue → ℕ
request_item r = r.item

abbrev pub request_kind : RequestValue → TxKind
request_kind r = r.kind

-- the kinds of the item's requests, in their order
unfoldable pub request_kinds : ℕ → List RequestValue → List TxKind
request_kinds x requests = map request_kind (filter (names_item request_item x) requests)

-- an entry of the item stands in the down list
abbrev pub in_down : ℕ → DirValue → Bool
in_down x d = has_some (queue_kinds x d.down)

abbrev pub in_requests : TxKind → ℕ → DirValue → Bool
in_requests kind x d = has_kind kind (request_kinds x d.requests)

-- the words of the parked copy
abbrev pub parked_words : ℕ → DirValue → Option (List ℕ)
parked_words x d = first_of (words_of_item x d.parked)

abbrev pub parked_place : ℕ → DirValue → Option ℕ
parked_place x d = position (is_copy x) d.parked

abbrev pub is_parked : ℕ → DirValue → Bool
is_parked x d = has_some (words_of_item x d.parked)

abbrev pub pushed_down : TxKind → ℕ → List ℕ → Stamp → DirValue → DirValue
pushed_down kind x words s d = record d { down = d.down ++ record { kind = kind; item = x; words = words; stamp = s } ∷ [] }

abbrev pub pushed_request : TxKind → ℕ → DirValue → DirValue
pushed_request kind x d = record d { requests = d.requests ++ record { kind = kind; item = x } ∷ [] }

abbrev pub pushed_reply : ℕ → List ℕ → DirValue → DirValue
pushed_reply x words d = record d { replies = d.replies ++ record { item = x; words = words } ∷ [] }

abbrev pub with_parked : ℕ → List ℕ → DirValue → DirValue
with_parked x words d = record d { parked = d.parked ++ record { item = x; words = words } ∷ [] }

abbrev pub without_parked : ℕ → DirValue → DirValue
without_parked x d = record d { parked = filter (λ c. not (is_copy x c)) d.parked }

-- a place that was kept for an inject is kept no more
abbrev pub place_released : DirValue → DirValue
place_released d = record d { reserved = d.reserved - 1 }

-- a request that isn't granted yet is struck
unfoldable pub struck : TxKind → ℕ → List RequestValue → List RequestValue
struck kind x requests = without_first (is_request kind x) requests

-- ---- pending, and the time of the bus below

-- why the item is pending on the bus below: the note, else answering, else an entry in the down list
abbrev pub pending_by : Option PendingWhy → Bool → Bool → Option PendingWhy
pending_by (Some why) answering queued = Some why
pending_by None true queued = Some PendingWhy.Answering
pending_by None false true = Some PendingWhy.InDown
pending_by None false false = None

unfoldable pub pending : ℕ → DirValue → Option PendingWhy
pending x d = pending_by (note_why (dir_note x d)) (is_answering x d) (in_down x d)

-- the present stamp of the bus below: its epoch, then its count
abbrev pub stamp_of : DirValue → Stamp
stamp_of d = stamp_at d.epoch d.level d.count

abbrev pub counted : DirValue → DirValue
counted d = record d { count = d.count + 1 }

-- A Down turn: what is behind the first entry is left, and the bus takes over the entry's stamp, save the top's bus, which
-- has none above it.
abbrev pub front_taken : Stamp → List DownValue → DirValue → DirValue
front_taken s rest d = record d { down = rest; epoch = if is_top d then d.epoch else s; count = d.count + 1 }

-- ---- what the bus above sees of it

-- its read was granted above, and nothing of the item has come down since
abbrev pub open_read : ℕ → DirValue → Bool
open_read x d = is_up_read (dir_note x d) && not (in_down x d)

abbrev pub dir_waits : ℕ → DirValue → Bool
dir_waits x d = in_requests ReadTx x d

-- an inject has a place: an open read takes it, or parking has one
abbrev pub inject_has_place : ℕ → DirValue → Bool
inject_has_place x d = open_read x d || not (parking_full d)

unfoldable pub dir_room : ℕ → DirValue → Bool
dir_room x d = not (down_full d) && inject_has_place x d

-- the item of parked copy `choice mod m` of the m in order of arrival
unfoldable pub dir_leaving : ℕ → List CopyValue → Option ℕ
dir_leaving choice parked = chosen copy_item choice parked

-- ---- what the bus above tells it; s is the stamp of that bus

-- it held the item, and is told to lose it: it holds none, its erase that isn't granted yet is struck, and erase goes down
abbrev pub dir_lost : ℕ → Stamp → DirValue → DirValue
dir_lost x s d =
    record (pushed_down EraseTx x (blank d.sizes.width) s (with_hold x Hold.Invalid d))
    { requests = struck EraseTx x d.requests }

-- Told to lose the item: nothing where it holds none.
unfoldable pub dir_lose : ℕ → Stamp → DirValue → DirValue
dir_lose x s d = record d {
  items = if is_held (dir_hold x d) then (dir_lost x s d).items else d.items;
  requests = if is_held (dir_hold x d) then (dir_lost x s d).requests else d.requests;
  down = if is_held (dir_hold x d) then (dir_lost x s d).down else d.down;
}

-- Told data: it holds the item Shared, and data goes down.
unfoldable pub dir_take_data : ℕ → List ℕ → Stamp → DirValue → DirValue
dir_take_data x words s d = pushed_down DataTx x words s (with_hold x Hold.Shared d)

-- Told exclusive: it holds the item Exclusive, and exclusive goes down.
unfoldable pub dir_take_exclusive : ℕ → Stamp → DirValue → DirValue
dir_take_exclusive x s d = pushed_down ExclusiveTx x (blank d.sizes.width) s (with_hold x Hold.Exclusive d)

-- Told to answer a read: it is answering, and read goes down.
unfoldable pub dir_answer : ℕ → Stamp → DirValue → DirValue
dir_answer x s d = pushed_down ReadTx x (blank d.sizes.width) s (with_answering x true d)

-- Told inject: it holds the item Exclusive, its read that isn't granted yet is struck, and inject goes down. A parking place
-- is kept for it, save where an open read takes it.
unfoldable pub dir_take_inject : ℕ → List ℕ → Stamp → DirValue → DirValue
dir_take_inject x words s d = record (pushed_down InjectTx x words s (with_hold x Hold.Exclusive d)) {
  requests = struck ReadTx x d.requests;
  reserved = if open_read x d then d.reserved else d.reserved + 1;
}

-- the parked copy leaves, and the directory holds the item no more
abbrev pub dir_give_up : ℕ → DirValue → DirValue
dir_give_up x d = with_hold x Hold.Invalid (without_parked x d)
