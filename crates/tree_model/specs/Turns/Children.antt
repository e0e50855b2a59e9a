-- The children of a bus: who of them holds an item or has room for it, which of their lists is full, and what a turn tells
-- each of them, as one function of a child's number and value.
-- Letters: n is child i, c, d and k are child numbers, x is an item, s a stamp.
-- To be believed: it is what the machine is.
use Rattle.std.specs.Prelude.{ℕ, Bool, not, ◌&&◌, nat_eq, nat_lt, List, Option, None, slice_index_or, if◌then◌else◌}
use Rattle.tree_model.specs.DdmTypes.declared.answers.TxKind.TheVariants.{DataTx, EraseTx}
use Rattle.tree_model.specs.DdmTypes.declared.answers.QueueName.{QueueName}
use Rattle.tree_model.specs.DdmTypes.declared.keys.Stamp.{Stamp}
use Rattle.tree_model.specs.State.Values.{Note, Node}
use Rattle.tree_model.specs.State.Directory.{is_reader}
use Rattle.tree_model.specs.State.Child.{child_holds, child_waits, child_room, child_full_for, child_lose}
use Rattle.tree_model.specs.State.Child.{child_take_data, child_answer, child_take_inject, child_request_taken}
use Rattle.tree_model.specs.State.Child.{child_reply_taken, child_give_up}
use Rattle.tree_model.specs.State.Blank.{no_node}

abbrev pub child_at : ℕ → List Node → Node
child_at c ns = slice_index_or ns c no_node

-- ---- who holds the item

abbrev pub holds_item : ℕ → ℕ → Node → Bool
holds_item x i n = child_holds x n

-- child i is another than c, and holds the item
abbrev pub other_holds : ℕ → ℕ → ℕ → Node → Bool
other_holds c x i n = not (nat_eq i c) && child_holds x n

-- ---- who has room for the item

abbrev pub waits_with_room : ℕ → ℕ → Node → Bool
waits_with_room x i n = child_waits x n && child_room x n

abbrev pub has_room : ℕ → ℕ → Node → Bool
has_room x i n = child_room x n

abbrev pub other_waits : ℕ → ℕ → ℕ → Node → Bool
other_waits c x i n = not (nat_eq i c) && (child_waits x n && child_room x n)

abbrev pub room_after : ℕ → ℕ → ℕ → Node → Bool
room_after c x i n = nat_lt c i && child_room x n

-- on the top's bus alone
abbrev pub room_before : Bool → ℕ → ℕ → ℕ → Node → Bool
room_before top c x i n = top && (nat_lt i c && child_room x n)

-- ---- full lists

-- that of a child other than c that is to lose the item
abbrev pub other_full : ℕ → ℕ → ℕ → Node → Option QueueName
other_full c x i n = if nat_eq i c then None else child_full_for EraseTx x n

abbrev pub full_to_lose : ℕ → ℕ → Node → Option QueueName
full_to_lose x i n = child_full_for EraseTx x n

-- that of a reader
abbrev pub reader_full : Note → ℕ → ℕ → Node → Option QueueName
reader_full note x i n = if is_reader note i then child_full_for DataTx x n else None

-- ---- what each child is told

-- child c alone is changed
abbrev pub only : ℕ → (Node → Node) → ℕ → Node → Node
only c f i n = if nat_eq i c then f n else n

-- child c's request was granted, and child k is told to answer
abbrev pub read_from : ℕ → ℕ → ℕ → Stamp → ℕ → Node → Node
read_from c k x s i n = if nat_eq i c then child_request_taken n else (if nat_eq i k then child_answer x s n else n)

-- child c's erase was granted, and every other child is told to lose the item
abbrev pub erased_by : ℕ → ℕ → Stamp → ℕ → Node → Node
erased_by c x s i n = if nat_eq i c then child_request_taken n else child_lose x s n

-- each child is told to lose the item
abbrev pub loses : ℕ → Stamp → ℕ → Node → Node
loses x s i n = child_lose x s n

-- each reader is told data
abbrev pub reader_takes : Note → ℕ → List ℕ → Stamp → ℕ → Node → Node
reader_takes note x words s i n = if is_reader note i then child_take_data x words s n else n

-- child c's reply was granted, and each reader is told data
abbrev pub replied_by : ℕ → Note → ℕ → List ℕ → Stamp → ℕ → Node → Node
replied_by c note x words s i n = reader_takes note x words s i (only c child_reply_taken i n)

-- child c's copy leaves, and child k is told inject
abbrev pub passed_on : ℕ → ℕ → ℕ → List ℕ → Stamp → ℕ → Node → Node
passed_on c k x words s i n = if nat_eq i c then child_give_up x n else (if nat_eq i k then child_take_inject x words s n else n)
