-- What each grant of a bus does to the parent's time and down list, and to its children.
use Rattle.std.proofs.Common.{◌≡◌, ℕ, ◌+◌, Bool, true, false, List, [], ◌∷◌, ◌++◌, refl}
use Rattle.std.specs.Prelude.{if◌then◌else◌}
use Rattle.order_laws.specs.DdmTypes.declared.answers.TxKind.TheVariants.{DataTx, ExclusiveTx}
use Rattle.order_laws.specs.DdmTypes.declared.keys.Stamp.{Stamp}
use Rattle.order_laws.specs.TreeModel.declared.BusTurn.{BusTurn}
use Rattle.order_laws.specs.TreeModel.State.States.{is_exclusive}
use Rattle.order_laws.specs.TreeModel.State.Values.{DownValue, DirValue, local, up_read, Node}
use Rattle.order_laws.specs.TreeModel.State.Leaf.{blank}
use Rattle.order_laws.specs.TreeModel.State.Directory.{is_top, dir_hold, stamp_of, counted, front_taken}
use Rattle.order_laws.specs.TreeModel.State.Child.{child_take_exclusive, child_answer, child_take_inject, child_request_taken, child_reply_taken, child_give_up, child_given}
use Rattle.order_laws.specs.TreeModel.Turns.Grant.{Grant}
use Rattle.order_laws.specs.TreeModel.Turns.Children.{child_at, only, read_from, erased_by, loses, reader_takes, replied_by, passed_on}
use Rattle.order_laws.specs.TreeModel.Turns.RequestRead.{joins, read_of_child, read_of_parked, read_of_parent}
use Rattle.order_laws.specs.TreeModel.Turns.RequestErase.{erase_of_all, erase_noted}
use Rattle.order_laws.specs.TreeModel.Turns.Reply.{reply_to_readers, reply_to_parent}
use Rattle.order_laws.specs.TreeModel.Turns.Down.{exclusive_to, erase_of_children, read_by_child, read_by_parked, data_to_readers, inject_to_reader, inject_to_readers, inject_to_child, inject_parked}
use Rattle.order_laws.specs.TreeModel.Turns.Leave.{out_gone, leave_parked, leave_to}
use Rattle.order_laws.proofs.TreeModel.Rows.{Row, row_joins, row_read_of_child, row_read_of_parked, row_read_of_parent, row_erase_of_all, row_reply_to_readers, row_reply_to_parent, row_exclusive_to, row_erase_of_children, row_read_by_child, row_read_by_parked, row_data_to_readers, row_inject_to_reader, row_inject_to_readers, row_inject_to_child, row_inject_parked, row_out_gone, row_out_parked, row_leave_to, row_inject_up}
use Rattle.order_laws.specs.TreeRules.Order.Time.{comes_later}
use Rattle.order_laws.proofs.Timed.Told.{AllTold, all-told_nothing, exclusive-told, answer-told, inject-told, request-told, reply-told, give-told, lose-told, only-told, read_from-told, erased_by-told, reader_takes-told, replied_by-told, passed_on-told, each-told}

-- the down list stays; it gets an entry with the present stamp above, of a kind that needn't come later; or its first entry is
-- taken, whose stamp the bus takes over, save the top's
pub data DownTurned (above : Stamp) (p q : DirValue) : Type 0 where
  down_stays : q.down ≡ p.down → q.epoch ≡ p.epoch → DownTurned above p q
  down_grows : (e : DownValue) → q.down ≡ p.down ++ e ∷ [] → e.stamp ≡ above → comes_later e.kind ≡ false → q.epoch ≡ p.epoch → DownTurned above p q
  down_taken : (e : DownValue) (rest : List DownValue) → p.down ≡ e ∷ rest → q.down ≡ rest → q.epoch ≡ (if is_top p then p.epoch else e.stamp) → DownTurned above p q

pub record ParentTurned (above : Stamp) (p q : DirValue) : Type 0 where
  pub level : q.level ≡ p.level
  pub count : q.count ≡ p.count + 1
  pub down : DownTurned above p q

pub record BusTurned (above : Stamp) (p q : DirValue) (ns ks : List Node) : Type 0 where
  pub parent : ParentTurned above p q
  pub kids : AllTold (stamp_of q) ns ks

module _ (above : Stamp) (p : DirValue) (ns : List Node) where
  stays : (q : DirValue) → q.level ≡ p.level → q.count ≡ p.count + 1 → q.down ≡ p.down → q.epoch ≡ p.epoch → ParentTurned above p q
  stays q level count down epoch = record { level = level; count = count; down = down_stays down epoch }

  grows : (q : DirValue) (e : DownValue) → q.level ≡ p.level → q.count ≡ p.count + 1 → q.down ≡ p.down ++ e ∷ [] → e.stamp ≡ above → comes_later e.kind ≡ false → q.epoch ≡ p.epoch → ParentTurned above p q
  grows q e level count down stamp kind epoch = record { level = level; count = count; down = down_grows e down stamp kind epoch }

  taken : (q : DirValue) (e : DownValue) (rest : List DownValue) → p.down ≡ e ∷ rest → q.level ≡ p.level → q.count ≡ p.count + 1 → q.down ≡ rest → q.epoch ≡ (if is_top p then p.epoch else e.stamp) → ParentTurned above p q
  taken q e rest front level count down epoch = record { level = level; count = count; down = down_taken e rest front down epoch }

  noted : (c x : ℕ) (b : Bool) → ParentTurned above p (erase_noted above c x p ns b)
  noted c x true = grows _ (record { kind = ExclusiveTx; item = x; words = blank p.sizes.width; stamp = above }) refl refl refl refl refl refl
  noted c x false = stays _ refl refl refl refl

  noted-stamp : (c x : ℕ) (b : Bool) → stamp_of (erase_noted above c x p ns b) ≡ stamp_of (counted p)
  noted-stamp c x true = refl
  noted-stamp c x false = refl

  told-erase : (c x : ℕ) (b : Bool) (ks : List Node) → AllTold (stamp_of (counted p)) ns ks → AllTold (stamp_of (erase_noted above c x p ns b)) ns ks
  told-erase c x true ks h = h
  told-erase c x false ks h = h

  abbrev s : Stamp
  s = stamp_of (counted p)

  pub row-turned : (t : BusTurn) (g : Grant) → Row above p ns t g → BusTurned above p g.parent ns g.kids
  unfolding joins read_of_child read_of_parked read_of_parent erase_of_all reply_to_readers reply_to_parent exclusive_to erase_of_children read_by_child read_by_parked data_to_readers inject_to_reader inject_to_readers inject_to_child inject_parked out_gone leave_parked leave_to
  row-turned t g (row_joins c x _ _) = record { parent = stays _ refl refl refl refl; kids = each-told s (only c child_request_taken) (only-told s c child_request_taken (request-told s)) 0 ns }
  row-turned t g (row_read_of_child c x k _ _ _ _ _) = record { parent = stays _ refl refl refl refl; kids = each-told s (read_from c k x s) (read_from-told s c k x) 0 ns }
  row-turned t g (row_read_of_parked c x words _ _ _ _ _ _) = record {
    parent = grows _ (record { kind = DataTx; item = x; words = words; stamp = above }) refl refl refl refl refl refl;
    kids = each-told s (only c child_request_taken) (only-told s c child_request_taken (request-told s)) 0 ns;
  }
  row-turned t g (row_read_of_parent c x _ _ _ _) = record { parent = stays _ refl refl refl refl; kids = each-told s (only c child_request_taken) (only-told s c child_request_taken (request-told s)) 0 ns }
  row-turned t g (row_erase_of_all c x _ _ _ _) = record { parent = noted c x (is_exclusive (dir_hold x p)); kids = told-erase c x (is_exclusive (dir_hold x p)) _ (each-told s (erased_by c x s) (erased_by-told s c x) 0 ns) }
  row-turned t g (row_reply_to_readers c x words first joined _ _ _) = record { parent = stays _ refl refl refl refl; kids = each-told s (replied_by c (local first joined) x words s) (replied_by-told s c (local first joined) x words) 0 ns }
  row-turned t g (row_reply_to_parent c x words _ _ _ _) = record { parent = stays _ refl refl refl refl; kids = each-told s (only c child_reply_taken) (only-told s c child_reply_taken (reply-told s)) 0 ns }
  row-turned t g (row_exclusive_to e rest d front _ _ _) = let u : Stamp = stamp_of (front_taken e.stamp rest p) in record { parent = taken _ e rest front refl refl refl refl; kids = each-told u (only d (child_take_exclusive e.item u)) (only-told u d (child_take_exclusive e.item u) (exclusive-told u e.item)) 0 ns }
  row-turned t g (row_erase_of_children e rest front _ _ _) = let u : Stamp = stamp_of (front_taken e.stamp rest p) in record { parent = taken _ e rest front refl refl refl refl; kids = each-told u (loses e.item u) (λ i n. lose-told u e.item n) 0 ns }
  row-turned t g (row_read_by_child e rest k front _ _ _ _) = let u : Stamp = stamp_of (front_taken e.stamp rest p) in record { parent = taken _ e rest front refl refl refl refl; kids = each-told u (only k (child_answer e.item u)) (only-told u k (child_answer e.item u) (answer-told u e.item)) 0 ns }
  row-turned t g (row_read_by_parked e rest words front _ _ _ _ _) = record { parent = taken _ e rest front refl refl refl refl; kids = all-told_nothing _ ns }
  row-turned t g (row_data_to_readers e rest first joined front _ _ _) = let u : Stamp = stamp_of (front_taken e.stamp rest p) in record { parent = taken _ e rest front refl refl refl refl; kids = each-told u (reader_takes (up_read first joined) e.item e.words u) (reader_takes-told u (up_read first joined) e.item e.words) 0 ns }
  row-turned t g (row_inject_to_reader e rest d joined front _ _ _ _ _) = let u : Stamp = stamp_of (front_taken e.stamp rest p) in record { parent = taken _ e rest front refl refl refl refl; kids = each-told u (only d (child_take_inject e.item e.words u)) (only-told u d (child_take_inject e.item e.words u) (inject-told u e.item e.words)) 0 ns }
  row-turned t g (row_inject_to_readers e rest first joined front _ _ _ _) = let u : Stamp = stamp_of (front_taken e.stamp rest p) in record { parent = taken _ e rest front refl refl refl refl; kids = each-told u (reader_takes (up_read first joined) e.item e.words u) (reader_takes-told u (up_read first joined) e.item e.words) 0 ns }
  row-turned t g (row_inject_to_child e rest k front _ _ _ _) = let u : Stamp = stamp_of (front_taken e.stamp rest p) in record { parent = taken _ e rest front refl refl refl refl; kids = each-told u (only k (child_take_inject e.item e.words u)) (only-told u k (child_take_inject e.item e.words u) (inject-told u e.item e.words)) 0 ns }
  row-turned t g (row_inject_parked e rest front _ _ _ _ _ _) = record { parent = taken _ e rest front refl refl refl refl; kids = all-told_nothing _ ns }
  row-turned t g (row_out_gone c choice x _ _ _ _ _) = record { parent = stays _ refl refl refl refl; kids = each-told s (only c (child_give_up x)) (only-told s c (child_give_up x) (give-told s x)) 0 ns }
  row-turned t g (row_out_parked c choice x _ _ _ _ _ _ _ _) = record { parent = stays _ refl refl refl refl; kids = each-told s (only c (child_give_up x)) (only-told s c (child_give_up x) (give-told s x)) 0 ns }
  row-turned t g (row_leave_to c choice x k _ _ _ _ _) = record { parent = stays _ refl refl refl refl; kids = each-told s (passed_on c k x (child_given x (child_at c ns)) s) (passed_on-told s c k x (child_given x (child_at c ns))) 0 ns }
  row-turned t g (row_inject_up c choice x _ _ _ _ _ _ _ _) = record { parent = stays _ refl refl refl refl; kids = each-told s (only c (child_give_up x)) (only-told s c (child_give_up x) (give-told s x)) 0 ns }
