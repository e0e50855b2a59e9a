-- What a bus tells a child, or takes from it, keeps all below within their rooms, where the list that it needs has a place.
use Rattle.std.proofs.Common.{◌≡◌, ℕ, true, false, List, None, refl}
use Rattle.std.specs.Prelude.{◌&&◌, not}
use Rattle.tree_model.specs.DdmTypes.declared.answers.TxKind.TheVariants.{ReadTx, DataTx, EraseTx, ExclusiveTx, InjectTx}
use Rattle.tree_model.specs.DdmTypes.declared.keys.Stamp.{Stamp}
use Rattle.tree_model.specs.State.Lists.{rest_of}
use Rattle.tree_model.specs.State.States.{is_held}
use Rattle.tree_model.specs.State.Values.{LeafValue, DirValue, Node, Nodes, leaf_node, dir_node}
use Rattle.tree_model.specs.State.Leaf.{leaf_replies_full}
use Rattle.tree_model.specs.State.Directory.{dir_hold, down_full, inject_has_place, dir_room}
use Rattle.tree_model.specs.State.Child.{child_room, reader_has_place, child_full_for, child_lose, child_take_data, child_take_exclusive, child_answer, child_take_inject, child_request_taken, child_reply_taken, child_give_up}
use Rattle.tree_model.specs.State.Rooms.{dir_within, all_within}
use Rattle.tree_model.proofs.Tests.{and-first, and-second, and-both, not-true, some_if-none}
use Rattle.tree_model.proofs.LeafRooms.{LeafWithin, leaf_within-facts, leaf_within-test, leaf_lose-within, leaf_take_data-within, leaf_take_exclusive-within, leaf_answer-within, leaf_take_inject-within, leaf_give_up-within, leaf_reply_taken-within}
use Rattle.tree_model.proofs.DirRooms.{DirWithin, dir_within-facts, dir_within-test, dir_request_taken-within, dir_reply_taken-within, dir_lose-within, dir_take_data-within, dir_take_exclusive-within, dir_answer-within, dir_take_inject-within, dir_give_up-within}

module _ (n : ℕ) where
  -- a leaf or a directory that stays within its rooms, with nothing deeper changed
  leaf-still : (v w : LeafValue) → (LeafWithin n v → LeafWithin n w) → all_within n (leaf_node v) ≡ true → all_within n (leaf_node w) ≡ true
  leaf-still v w kept e = leaf_within-test n w (kept (leaf_within-facts n v e))

  dir-still : (d e : DirValue) (ns : Nodes) → (DirWithin n d → DirWithin n e) → all_within n (dir_node d ns) ≡ true → all_within n (dir_node e ns) ≡ true
  dir-still d e ns kept within = and-both _ _ (dir_within-test n e (kept (dir_within-facts n d (and-first _ _ within)))) (and-second (dir_within n d) _ within)

  pub child_lose-within : (x : ℕ) (s : Stamp) (m : Node) → child_full_for EraseTx x m ≡ None → all_within n m ≡ true → all_within n (child_lose x s m) ≡ true
  child_lose-within x s (leaf_node v) room = leaf-still v _ (leaf_lose-within n x v)
  child_lose-within x s (dir_node d ns) room = dir-still d _ ns (dir_lose-within n x s d (some_if-none (is_held (dir_hold x d) && down_full d) _ room))

  pub child_take_data-within : (x : ℕ) (words : List ℕ) (s : Stamp) (m : Node) → child_full_for DataTx x m ≡ None → all_within n m ≡ true → all_within n (child_take_data x words s m) ≡ true
  child_take_data-within x words s (leaf_node v) room = leaf-still v _ (leaf_take_data-within n x words v)
  child_take_data-within x words s (dir_node d ns) room = dir-still d _ ns (dir_take_data-within n x words s d (some_if-none (down_full d) _ room))

  pub child_take_exclusive-within : (x : ℕ) (s : Stamp) (m : Node) → child_full_for ExclusiveTx x m ≡ None → all_within n m ≡ true → all_within n (child_take_exclusive x s m) ≡ true
  child_take_exclusive-within x s (leaf_node v) room = leaf-still v _ (leaf_take_exclusive-within n x v)
  child_take_exclusive-within x s (dir_node d ns) room = dir-still d _ ns (dir_take_exclusive-within n x s d (some_if-none (down_full d) _ room))

  pub child_answer-within : (x : ℕ) (s : Stamp) (m : Node) → child_full_for ReadTx x m ≡ None → all_within n m ≡ true → all_within n (child_answer x s m) ≡ true
  child_answer-within x s (leaf_node v) room = leaf-still v _ (leaf_answer-within n x v (some_if-none (leaf_replies_full v) _ room))
  child_answer-within x s (dir_node d ns) room = dir-still d _ ns (dir_answer-within n x s d (some_if-none (down_full d) _ room))

  pub child_take_inject-within : (x : ℕ) (words : List ℕ) (s : Stamp) (m : Node) → child_full_for InjectTx x m ≡ None → reader_has_place x m ≡ true → all_within n m ≡ true → all_within n (child_take_inject x words s m) ≡ true
  child_take_inject-within x words s (leaf_node v) room place = leaf-still v _ (leaf_take_inject-within n x words v)
  child_take_inject-within x words s (dir_node d ns) room place = dir-still d _ ns (dir_take_inject-within n x words s d (some_if-none (down_full d) _ room) place)

  pub child_request_taken-within : (m : Node) → all_within n m ≡ true → all_within n (child_request_taken m) ≡ true
  child_request_taken-within (leaf_node v) within = within
  child_request_taken-within (dir_node d ns) within = dir-still d (record d { requests = rest_of d.requests }) ns (dir_request_taken-within n d) within

  pub child_reply_taken-within : (m : Node) → all_within n m ≡ true → all_within n (child_reply_taken m) ≡ true
  child_reply_taken-within (leaf_node v) within = leaf-still v (record v { replies = rest_of v.replies }) (leaf_reply_taken-within n v) within
  child_reply_taken-within (dir_node d ns) within = dir-still d (record d { replies = rest_of d.replies }) ns (dir_reply_taken-within n d) within

  pub child_give_up-within : (x : ℕ) (m : Node) → all_within n m ≡ true → all_within n (child_give_up x m) ≡ true
  child_give_up-within x (leaf_node v) = leaf-still v _ (leaf_give_up-within n x v)
  child_give_up-within x (dir_node d ns) = dir-still d _ ns (dir_give_up-within n x d)

-- ---- a child with room has what an inject needs

child_room-list : (x : ℕ) (m : Node) → child_room x m ≡ true → child_full_for InjectTx x m ≡ None
unfolding dir_room
child_room-list x (leaf_node v) room = refl
child_room-list x (dir_node d ns) room =
    let free : down_full d ≡ false = not-true _ (and-first (not (down_full d)) (inject_has_place x d) room) in
    rw free refl

child_room-place : (x : ℕ) (m : Node) → child_room x m ≡ true → reader_has_place x m ≡ true
unfolding dir_room
child_room-place x (leaf_node v) room = refl
child_room-place x (dir_node d ns) room = and-second (not (down_full d)) (inject_has_place x d) room

pub child_take_inject-with_room : (n x : ℕ) (words : List ℕ) (s : Stamp) (m : Node) → child_room x m ≡ true → all_within n m ≡ true → all_within n (child_take_inject x words s m) ≡ true
child_take_inject-with_room n x words s m room = child_take_inject-within n x words s m (child_room-list x m room) (child_room-place x m room)

-- a reply that is taken leaves the room for data
pub reply_taken-room : (x : ℕ) (m : Node) → child_full_for DataTx x (child_reply_taken m) ≡ child_full_for DataTx x m
reply_taken-room x (leaf_node v) = refl
reply_taken-room x (dir_node d ns) = refl
