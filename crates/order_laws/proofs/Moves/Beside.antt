-- A turn of a bus leaves the copies of every other item than its own where they are.
-- Letters: y is the other item; g is what was granted.
use Rattle.std.proofs.Common.{◌≡◌, ◌≢◌, ℕ, ◌<◌, Bool, true, false, List, ◌∷◌, length, refl, sym, ap, subst, ◌∙◌}
use Rattle.std.specs.Prelude.{nat_eq, if◌then◌else◌}
use Rattle.order_laws.specs.DdmTypes.declared.keys.Stamp.{Stamp}
use Rattle.order_laws.specs.TreeModel.declared.BusTurn.{BusTurn}
use Rattle.order_laws.specs.TreeModel.State.Lists.{map_from}
use Rattle.order_laws.specs.TreeModel.State.States.{is_exclusive}
use Rattle.order_laws.specs.TreeModel.State.Values.{DownValue, Note, local, up_read, DirValue, Node, leaf_node, dir_node}
use Rattle.order_laws.specs.TreeModel.State.Leaf.{words_of_item}
use Rattle.order_laws.specs.TreeModel.State.Directory.{dir_hold, queue_of, is_reader, stamp_of, counted, front_taken}
use Rattle.order_laws.specs.TreeModel.State.Child.{child_lose, child_take_data, child_take_exclusive, child_answer, child_take_inject, child_give_up, child_request_taken, child_reply_taken, child_given}
use Rattle.order_laws.specs.TreeModel.Turns.Grant.{Grant}
use Rattle.order_laws.specs.TreeModel.Turns.Children.{child_at, only, read_from, erased_by, loses, reader_takes, replied_by, passed_on}
use Rattle.order_laws.specs.TreeModel.Turns.RequestRead.{joins, read_of_child, read_of_parked, read_of_parent}
use Rattle.order_laws.specs.TreeModel.Turns.RequestErase.{erase_of_all, erase_noted}
use Rattle.order_laws.specs.TreeModel.Turns.Reply.{reply_to_readers, reply_to_parent}
use Rattle.order_laws.specs.TreeModel.Turns.Down.{exclusive_to, erase_of_children, read_by_child, read_by_parked, data_to_readers, inject_to_reader, inject_to_readers, inject_to_child, inject_parked}
use Rattle.order_laws.specs.TreeModel.Turns.Leave.{out_gone, leave_parked, leave_to}
use Rattle.order_laws.proofs.TreeModel.Children.{map_from-length, child_at-map_from}
use Rattle.order_laws.proofs.TreeModel.Rows.{Row, row_joins, row_read_of_child, row_read_of_parked, row_read_of_parent, row_erase_of_all, row_reply_to_readers, row_reply_to_parent, row_exclusive_to, row_erase_of_children, row_read_by_child, row_read_by_parked, row_data_to_readers, row_inject_to_reader, row_inject_to_readers, row_inject_to_child, row_inject_parked, row_out_gone, row_out_parked, row_leave_to, row_inject_up}
use Rattle.bus_laws.proofs.ItemLists.{words-pushed_other, words-without_other}
use Rattle.order_laws.proofs.Moves.Child.{IsFewer}
use Rattle.order_laws.proofs.Moves.Inside.{queue-pushed_other, queue-front_other}
use Rattle.order_laws.proofs.Moves.Calls.{request-fewer, reply-fewer, same-fewer, lose-other, data-other_item, inject-other_item, exclusive-other_item, answer-other_item, give_up-other}

-- q and ms have what p and ns had of the item
pub record IsBeside (y : ℕ) (p q : DirValue) (ns ms : List Node) : Type 0 where
  pub queue : queue_of y q.down ≡ queue_of y p.down
  pub parked : words_of_item y q.parked ≡ words_of_item y p.parked
  pub replies : words_of_item y q.replies ≡ words_of_item y p.replies
  pub many : length ms ≡ length ns
  pub kids : (i : ℕ) → i < length ns → IsFewer y (child_at i ns) (child_at i ms)

-- ---- children

fewer-again : (x : ℕ) (n m k : Node) → IsFewer x n m → IsFewer x m k → IsFewer x n k
fewer-again x (leaf_node v) (leaf_node w) (leaf_node u) f g = (λ place clock k h. f.0 place clock k (g.0 place clock k h), λ place clock k h. f.1 place clock k (g.1 place clock k h))
fewer-again x (leaf_node v) (leaf_node w) (dir_node e ms) f g = absurd g
fewer-again x (leaf_node v) (dir_node e ms) k f g = absurd f
fewer-again x (dir_node d ns) (leaf_node w) k f g = absurd f
fewer-again x (dir_node d ns) (dir_node e ms) (leaf_node u) f g = absurd g
fewer-again x (dir_node d ns) (dir_node e ms) (dir_node b ks) f g = (λ c k h. f.0 c k (g.0 c k h), λ place clock k h. f.1 place clock k (g.1 place clock k h))

module _ (y : ℕ) where
  by-test : (b : Bool) (n m k : Node) → IsFewer y n m → IsFewer y n k → IsFewer y n (if b then m else k)
  by-test true n m k f g = f
  by-test false n m k f g = g

  pub only-fewer : (c : ℕ) (f : Node → Node) → ((n : Node) → IsFewer y n (f n)) → (i : ℕ) (n : Node) → IsFewer y n (only c f i n)
  only-fewer c f h i n = by-test (nat_eq i c) n (f n) n (h n) (same-fewer y n)

  module _ (p q : DirValue) (ns : List Node) (queue : queue_of y q.down ≡ queue_of y p.down) (parked : words_of_item y q.parked ≡ words_of_item y p.parked) (replies : words_of_item y q.replies ≡ words_of_item y p.replies) where
    pub beside-all : (g : ℕ → Node → Node) → ((i : ℕ) (n : Node) → IsFewer y n (g i n)) → IsBeside y p q ns (map_from g 0 ns)
    beside-all g h = record { queue = queue; parked = parked; replies = replies; many = map_from-length g 0 ns; kids = λ i l. subst (λ m. IsFewer y (child_at i ns) m) (sym (child_at-map_from g i ns l)) (h i (child_at i ns)) }

    beside-none : IsBeside y p q ns ns
    beside-none = record { queue = queue; parked = parked; replies = replies; many = refl; kids = λ i l. same-fewer y (child_at i ns) }

-- ---- by rows

module _ (above : Stamp) (p : DirValue) (ns : List Node) (y : ℕ) where
  erase_noted-queue : (c x : ℕ) → y ≢ x → (b : Bool) → queue_of y (erase_noted above c x p ns b).down ≡ queue_of y p.down
  erase_noted-queue c x ne true = queue-pushed_other y p.down _ ne
  erase_noted-queue c x ne false = refl

  erase_noted-parked : (c x : ℕ) (b : Bool) → words_of_item y (erase_noted above c x p ns b).parked ≡ words_of_item y p.parked
  erase_noted-parked c x true = refl
  erase_noted-parked c x false = refl

  erase_noted-replies : (c x : ℕ) (b : Bool) → words_of_item y (erase_noted above c x p ns b).replies ≡ words_of_item y p.replies
  erase_noted-replies c x true = refl
  erase_noted-replies c x false = refl

  rest-queue : (e : DownValue) (rest : List DownValue) → p.down ≡ e ∷ rest → y ≢ e.item → queue_of y rest ≡ queue_of y p.down
  rest-queue e rest front ne = sym (ap (queue_of y) front ∙ queue-front_other y e rest ne)

  readers-fewer : (note : Note) (x : ℕ) (words : List ℕ) (s : Stamp) → y ≢ x → (i : ℕ) (n : Node) → IsFewer y n (reader_takes note x words s i n)
  readers-fewer note x words s ne i n = by-test y (is_reader note i) n (child_take_data x words s n) n (data-other_item x y ne words s n) (same-fewer y n)

  pub row-beside : (t : BusTurn) (g : Grant) → Row above p ns t g → y ≢ g.item → IsBeside y p g.parent ns g.kids
  unfolding joins read_of_child read_of_parked read_of_parent erase_of_all reply_to_readers reply_to_parent exclusive_to erase_of_children read_by_child read_by_parked data_to_readers inject_to_reader inject_to_readers inject_to_child inject_parked out_gone leave_parked leave_to
  row-beside t g (row_joins c x _ _) ne = beside-all y p _ ns refl refl refl (only c child_request_taken) (only-fewer y c child_request_taken (request-fewer y))
  row-beside t g (row_read_of_child c x k _ _ _ _ _) ne = beside-all y p _ ns refl refl refl (read_from c k x (stamp_of (counted p))) (λ i n. by-test y (nat_eq i c) n (child_request_taken n) _ (request-fewer y n) (by-test y (nat_eq i k) n (child_answer x (stamp_of (counted p)) n) n (answer-other_item x y ne (stamp_of (counted p)) n) (same-fewer y n)))
  row-beside t g (row_read_of_parked c x words _ _ _ _ _ _) ne = beside-all y p _ ns (queue-pushed_other y p.down _ ne) (words-without_other x y p.parked ne) refl (only c child_request_taken) (only-fewer y c child_request_taken (request-fewer y))
  row-beside t g (row_read_of_parent c x _ _ _ _) ne = beside-all y p _ ns refl refl refl (only c child_request_taken) (only-fewer y c child_request_taken (request-fewer y))
  row-beside t g (row_erase_of_all c x _ _ _ _) ne = beside-all y p _ ns (erase_noted-queue c x ne (is_exclusive (dir_hold x p))) (erase_noted-parked c x (is_exclusive (dir_hold x p))) (erase_noted-replies c x (is_exclusive (dir_hold x p))) (erased_by c x (stamp_of (counted p))) (λ i n. by-test y (nat_eq i c) n (child_request_taken n) (child_lose x (stamp_of (counted p)) n) (request-fewer y n) (lose-other x y ne (stamp_of (counted p)) n))
  row-beside t g (row_reply_to_readers c x words first joined _ _ _) ne = beside-all y p _ ns refl refl refl (replied_by c (local first joined) x words (stamp_of (counted p))) (λ i n. fewer-again y n (only c child_reply_taken i n) _ (only-fewer y c child_reply_taken (reply-fewer y) i n) (readers-fewer (local first joined) x words (stamp_of (counted p)) ne i (only c child_reply_taken i n)))
  row-beside t g (row_reply_to_parent c x words _ _ _ _) ne = beside-all y p _ ns refl refl (words-pushed_other y p.replies _ ne) (only c child_reply_taken) (only-fewer y c child_reply_taken (reply-fewer y))
  row-beside t g (row_exclusive_to e rest d front _ _ _) ne = beside-all y p _ ns (rest-queue e rest front ne) refl refl (only d (child_take_exclusive e.item (stamp_of (front_taken e.stamp rest p)))) (only-fewer y d _ (exclusive-other_item e.item y ne (stamp_of (front_taken e.stamp rest p))))
  row-beside t g (row_erase_of_children e rest front _ _ _) ne = beside-all y p _ ns (rest-queue e rest front ne) (words-without_other e.item y p.parked ne) refl (loses e.item (stamp_of (front_taken e.stamp rest p))) (λ i n. lose-other e.item y ne (stamp_of (front_taken e.stamp rest p)) n)
  row-beside t g (row_read_by_child e rest k front _ _ _ _) ne = beside-all y p _ ns (rest-queue e rest front ne) refl refl (only k (child_answer e.item (stamp_of (front_taken e.stamp rest p)))) (only-fewer y k _ (answer-other_item e.item y ne (stamp_of (front_taken e.stamp rest p))))
  row-beside t g (row_read_by_parked e rest words front _ _ _ _ _) ne = beside-none y p _ ns (rest-queue e rest front ne) refl (words-pushed_other y p.replies _ ne)
  row-beside t g (row_data_to_readers e rest first joined front _ _ _) ne = beside-all y p _ ns (rest-queue e rest front ne) refl refl (reader_takes (up_read first joined) e.item e.words (stamp_of (front_taken e.stamp rest p))) (readers-fewer (up_read first joined) e.item e.words (stamp_of (front_taken e.stamp rest p)) ne)
  row-beside t g (row_inject_to_reader e rest d joined front _ _ _ _ _) ne = beside-all y p _ ns (rest-queue e rest front ne) refl refl (only d (child_take_inject e.item e.words (stamp_of (front_taken e.stamp rest p)))) (only-fewer y d _ (inject-other_item e.item y ne e.words (stamp_of (front_taken e.stamp rest p))))
  row-beside t g (row_inject_to_readers e rest first joined front _ _ _ _) ne = beside-all y p _ ns (rest-queue e rest front ne) refl refl (reader_takes (up_read first joined) e.item e.words (stamp_of (front_taken e.stamp rest p))) (readers-fewer (up_read first joined) e.item e.words (stamp_of (front_taken e.stamp rest p)) ne)
  row-beside t g (row_inject_to_child e rest k front _ _ _ _) ne = beside-all y p _ ns (rest-queue e rest front ne) refl refl (only k (child_take_inject e.item e.words (stamp_of (front_taken e.stamp rest p)))) (only-fewer y k _ (inject-other_item e.item y ne e.words (stamp_of (front_taken e.stamp rest p))))
  row-beside t g (row_inject_parked e rest front _ _ _ _ _ _) ne = beside-none y p _ ns (rest-queue e rest front ne) (words-pushed_other y p.parked _ ne) refl
  row-beside t g (row_out_gone c choice x _ _ _ _ _) ne = beside-all y p _ ns refl refl refl (only c (child_give_up x)) (only-fewer y c _ (give_up-other x y ne))
  row-beside t g (row_out_parked c choice x _ _ _ _ _ _ _ _) ne = beside-all y p _ ns refl (words-pushed_other y p.parked _ ne) refl (only c (child_give_up x)) (only-fewer y c _ (give_up-other x y ne))
  row-beside t g (row_leave_to c choice x k _ _ _ _ _) ne = beside-all y p _ ns refl refl refl (passed_on c k x (child_given x (child_at c ns)) (stamp_of (counted p))) (λ i n. by-test y (nat_eq i c) n (child_give_up x n) _ (give_up-other x y ne n) (by-test y (nat_eq i k) n (child_take_inject x (child_given x (child_at c ns)) (stamp_of (counted p)) n) n (inject-other_item x y ne (child_given x (child_at c ns)) (stamp_of (counted p)) n) (same-fewer y n)))
  row-beside t g (row_inject_up c choice x _ _ _ _ _ _ _ _) ne = beside-all y p _ ns refl (words-pushed_other y p.parked _ ne) refl (only c (child_give_up x)) (only-fewer y c _ (give_up-other x y ne))
