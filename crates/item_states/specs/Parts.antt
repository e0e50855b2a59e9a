-- What the calls between a bus and its parts need of a value: how many items it keeps something of, and requests, copies and
-- entries as the code has them.
-- To be believed: contracts of code speak of it.
use Rattle.std.specs.Prelude.{◌≡◌, ℕ, ◌+◌, ◌<◌, Bool, true, false, List, length, Option, Some, None, is_some, ⊤}
use Rattle.item_states.specs.DdmTypes.declared.answers.TxKind.{TxKind}
use Rattle.item_states.specs.DdmTypes.declared.answers.PendingWhy.{PendingWhy}
use Rattle.item_states.specs.DdmTypes.declared.answers.QueueName.{QueueName}
use Rattle.item_states.specs.DdmTypes.declared.keys.Stamp.{Stamp}
use Rattle.tree_model.specs.State.Values.{RequestValue, CopyValue, Note, no_note, local, up_read, up_erase, DirValue}
use Rattle.tree_model.specs.State.Values.{Node, leaf_node, dir_node}
use Rattle.tree_model.specs.State.Leaf.{buffered}
use Rattle.tree_model.specs.State.Directory.{is_top, parking_full, parked_words}
use Rattle.tree_model.specs.Turns.Grant.{own_down_full, own_requests_full, own_replies_full}
use Rattle.item_states.specs.declared.parent.ParentList.{ParentList}

-- of how many items a node keeps something
abbrev pub node_items : Node → ℕ
node_items (leaf_node v) = length v.ways
node_items (dir_node d ns) = length d.items

-- a request and a copy as pairs
abbrev pub request_pair : RequestValue → TxKind × ℕ
request_pair r = (r.kind, r.item)

abbrev pub copy_pair : CopyValue → ℕ × List ℕ
copy_pair c = (c.item, c.words)

-- a copy of the item is there that may leave: in the buffer, or parked
abbrev pub has_given : ℕ → Node → Bool
has_given x (leaf_node v) = is_some (buffered x v.buffer)
has_given x (dir_node d ns) = is_some (parked_words x d)

-- the note of a reason, with nobody joined; the others are no notes
abbrev pub note_of : Option PendingWhy → Note
note_of (Some (PendingWhy.Local c)) = local c 0
note_of (Some (PendingWhy.UpRead c)) = up_read c 0
note_of (Some (PendingWhy.UpErase c)) = up_erase c
note_of (Some PendingWhy.Answering) = no_note
note_of (Some PendingWhy.InDown) = no_note
note_of None = no_note

-- the children that joined a read
abbrev pub joined_in : Note → ℕ
joined_in no_note = 0
joined_in (local first joined) = joined
joined_in (up_read first joined) = joined
joined_in (up_erase d) = 0

-- a list of a bus's parent, where it is full
abbrev pub own_list_full : ParentList → DirValue → Option QueueName
own_list_full ParentList.Down p = own_down_full p
own_list_full ParentList.Requests p = own_requests_full p
own_list_full ParentList.Replies p = own_replies_full p

-- the bus takes over a stamp, if one is given, and counts one grant more
abbrev pub advanced : Option Stamp → DirValue → DirValue
advanced None p = record p { count = p.count + 1 }
advanced (Some s) p = record p { epoch = s; count = p.count + 1 }

-- the child of a note is one of at most 16
abbrev pub NamesChild : Note → Type 0
NamesChild no_note = ⊤
NamesChild (local first joined) = first < 16
NamesChild (up_read first joined) = first < 16
NamesChild (up_erase d) = d < 16

-- parking has the place that a copy is to take: one that was kept, or a free one
abbrev pub CanPark : Bool → DirValue → Type 0
CanPark true p = 0 < p.reserved
CanPark false p = parking_full p ≡ false

-- a stamp is taken over by a bus that has one above it alone
abbrev pub TakesOver : Option Stamp → DirValue → Type 0
TakesOver None p = ⊤
TakesOver (Some s) p = is_top p ≡ false
