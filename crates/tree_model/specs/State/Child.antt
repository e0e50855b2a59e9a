-- A child's face to its bus, by cases: a leaf, or a directory with the tree below it.
-- Letters: n is a child, v a leaf, d a directory over the children ns, x an item, s a stamp.
-- To be believed: it is what the machine is.
use Rattle.std.specs.Prelude.{ℕ, Bool, true, ◌&&◌, List, Option, None, option_map, unwrap_or, []}
use Rattle.tree_model.specs.DdmTypes.declared.answers.TxKind.{TxKind}
use Rattle.tree_model.specs.DdmTypes.declared.answers.TxKind.TheVariants.{ReadTx, DataTx, EraseTx, ExclusiveTx, InjectTx, OutTx}
use Rattle.tree_model.specs.DdmTypes.declared.answers.PendingWhy.{PendingWhy}
use Rattle.tree_model.specs.DdmTypes.declared.answers.QueueName.{QueueName}
use Rattle.tree_model.specs.DdmTypes.declared.sizes.Hold.{Hold}
use Rattle.tree_model.specs.DdmTypes.declared.keys.Stamp.{Stamp}
use Rattle.tree_model.specs.declared.TreeChild.{TreeChild}
use Rattle.tree_model.specs.State.Lists.{first_of, rest_of, some_if}
use Rattle.tree_model.specs.State.States.{is_held}
use Rattle.tree_model.specs.State.Values.{RequestValue, CopyValue, BufferValue, LeafValue, DirValue, Node, leaf_node, dir_node}
use Rattle.tree_model.specs.State.Leaf.{leaf_hold, leaf_waits, leaf_room, leaf_replies_full, leaf_leaving, leaf_lose}
use Rattle.tree_model.specs.State.Leaf.{leaf_take_data, leaf_take_exclusive, leaf_answer, leaf_take_inject}
use Rattle.tree_model.specs.State.Leaf.{leaf_give_up, buffered}
use Rattle.tree_model.specs.State.Directory.{dir_hold, dir_waits, dir_room, inject_has_place, down_full, pending}
use Rattle.tree_model.specs.State.Directory.{dir_leaving, parked_words, dir_lose, dir_take_data, dir_take_exclusive}
use Rattle.tree_model.specs.State.Directory.{dir_answer, dir_take_inject, dir_give_up}

abbrev pub child_label : Node → TreeChild
child_label (leaf_node v) = TreeChild.LeafChild v.number
child_label (dir_node d ns) = TreeChild.BusChild d.bus

-- ---- what the bus sees

abbrev pub child_hold : ℕ → Node → Hold
child_hold x (leaf_node v) = leaf_hold x v
child_hold x (dir_node d ns) = dir_hold x d

abbrev pub child_holds : ℕ → Node → Bool
child_holds x n = is_held (child_hold x n)

-- its slot or its requests hold a read of the item
abbrev pub child_waits : ℕ → Node → Bool
child_waits x (leaf_node v) = leaf_waits x v
child_waits x (dir_node d ns) = dir_waits x d

abbrev pub child_room : ℕ → Node → Bool
child_room x (leaf_node v) = leaf_room x v
child_room x (dir_node d ns) = dir_room x d

-- an inject that comes to it as a reader has a place
abbrev pub reader_has_place : ℕ → Node → Bool
reader_has_place x (leaf_node v) = true
reader_has_place x (dir_node d ns) = inject_has_place x d

-- the list that must have a place before a leaf is told this, where it is full: its replies, to answer a read
abbrev pub leaf_full_for : TxKind → LeafValue → Option QueueName
leaf_full_for ReadTx v = some_if (leaf_replies_full v) (QueueName.LeafReplies v.number)
leaf_full_for DataTx v = None
leaf_full_for EraseTx v = None
leaf_full_for ExclusiveTx v = None
leaf_full_for InjectTx v = None
leaf_full_for OutTx v = None

-- the same for a directory: its down list, save where it is told to lose an item that it doesn't hold
abbrev pub dir_full_for : TxKind → ℕ → DirValue → Option QueueName
dir_full_for ReadTx x d = some_if (down_full d) (QueueName.Down d.bus)
dir_full_for DataTx x d = some_if (down_full d) (QueueName.Down d.bus)
dir_full_for EraseTx x d = some_if (is_held (dir_hold x d) && down_full d) (QueueName.Down d.bus)
dir_full_for ExclusiveTx x d = some_if (down_full d) (QueueName.Down d.bus)
dir_full_for InjectTx x d = some_if (down_full d) (QueueName.Down d.bus)
dir_full_for OutTx x d = None

abbrev pub child_full_for : TxKind → ℕ → Node → Option QueueName
child_full_for kind x (leaf_node v) = leaf_full_for kind v
child_full_for kind x (dir_node d ns) = dir_full_for kind x d

abbrev pub child_request : Node → Option RequestValue
child_request (leaf_node v) = v.slot
child_request (dir_node d ns) = first_of d.requests

abbrev pub child_replies : Node → List CopyValue
child_replies (leaf_node v) = v.replies
child_replies (dir_node d ns) = d.replies

abbrev pub child_reply : Node → Option CopyValue
child_reply n = first_of (child_replies n)

-- the item whose copy leaves at this choice
abbrev pub child_leaving : ℕ → Node → Option ℕ
child_leaving choice (leaf_node v) = leaf_leaving choice v.buffer
child_leaving choice (dir_node d ns) = dir_leaving choice d.parked

-- why the item is pending on the child's own bus, with that bus
abbrev pub pending_below : ℕ → Node → Option (ℕ × PendingWhy)
pending_below x (leaf_node v) = None
pending_below x (dir_node d ns) = option_map (λ why. (d.bus, why)) (pending x d)

-- ---- what the bus tells it, at the stamp s; nothing deeper changes

abbrev pub child_lose : ℕ → Stamp → Node → Node
child_lose x s (leaf_node v) = leaf_node (leaf_lose x v)
child_lose x s (dir_node d ns) = dir_node (dir_lose x s d) ns

abbrev pub child_take_data : ℕ → List ℕ → Stamp → Node → Node
child_take_data x words s (leaf_node v) = leaf_node (leaf_take_data x words v)
child_take_data x words s (dir_node d ns) = dir_node (dir_take_data x words s d) ns

abbrev pub child_take_exclusive : ℕ → Stamp → Node → Node
child_take_exclusive x s (leaf_node v) = leaf_node (leaf_take_exclusive x v)
child_take_exclusive x s (dir_node d ns) = dir_node (dir_take_exclusive x s d) ns

abbrev pub child_answer : ℕ → Stamp → Node → Node
child_answer x s (leaf_node v) = leaf_node (leaf_answer x v)
child_answer x s (dir_node d ns) = dir_node (dir_answer x s d) ns

abbrev pub child_take_inject : ℕ → List ℕ → Stamp → Node → Node
child_take_inject x words s (leaf_node v) = leaf_node (leaf_take_inject x words v)
child_take_inject x words s (dir_node d ns) = dir_node (dir_take_inject x words s d) ns

-- ---- what the bus takes from it

abbrev pub child_request_taken : Node → Node
child_request_taken (leaf_node v) = leaf_node (record v { slot = None })
child_request_taken (dir_node d ns) = dir_node (record d { requests = rest_of d.requests }) ns

abbrev pub child_reply_taken : Node → Node
child_reply_taken (leaf_node v) = leaf_node (record v { replies = rest_of v.replies })
child_reply_taken (dir_node d ns) = dir_node (record d { replies = rest_of d.replies }) ns

abbrev pub buffer_words : BufferValue → List ℕ
buffer_words e = e.words

-- the words of the copy that leaves
abbrev pub child_given : ℕ → Node → List ℕ
child_given x (leaf_node v) = unwrap_or (option_map buffer_words (buffered x v.buffer)) []
child_given x (dir_node d ns) = unwrap_or (parked_words x d) []

abbrev pub child_give_up : ℕ → Node → Node
child_give_up x (leaf_node v) = leaf_node (leaf_give_up x v)
child_give_up x (dir_node d ns) = dir_node (dir_give_up x d) ns
