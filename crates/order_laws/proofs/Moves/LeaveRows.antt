-- Where copies come from in a turn in which a child's copy leaves, as for its own item.
-- Letters: p is the parent, ns its children, w where the parent stands, c the child, x the item.
use Rattle.std.proofs.Common.{◌≡◌, ℕ, ◌<◌, List, length, Some, None, refl, inr}
use Rattle.order_laws.specs.TreeModel.State.Lists.{map_from}
use Rattle.order_laws.specs.TreeModel.State.Values.{DirValue, Node, leaf_node, dir_node}
use Rattle.order_laws.specs.TreeModel.State.Directory.{stamp_of, counted, with_parked}
use Rattle.order_laws.specs.TreeModel.State.Blank.{no_node}
use Rattle.order_laws.specs.TreeModel.State.Child.{child_leaving, child_given, child_give_up, pending_below}
use Rattle.order_laws.specs.TreeModel.State.Place.{Where, where_path, spot_in}
use Rattle.order_laws.specs.TreeModel.Turns.Children.{child_at, only, passed_on}
use Rattle.order_laws.specs.TreeModel.Turns.Leave.{leave_taker}
use Rattle.order_laws.proofs.TreeModel.BusRooms.{leave_taker-room}
use Rattle.order_laws.specs.TreeRules.Bus.Rules.{IsChildOk}
use Rattle.std.specs.List.{AllByRecursion}
use Rattle.order_laws.specs.TreeRules.Order.Directories.{IsOrdered}
use Rattle.order_laws.specs.TreeRules.Order.Places.{dirs_in}
use Rattle.bus_laws.proofs.Calls.{child-give_up}
use Rattle.bus_laws.proofs.ItemLists.{words-pushed}
use Rattle.bus_laws.proofs.OneChild.{leaves-there}
use Rattle.bus_laws.proofs.RowFrame.{all-kids_at}
use Rattle.order_laws.specs.Moves.Parent.{bound_at}
use Rattle.order_laws.proofs.Moves.BusFacts.{BusFacts, kid-ordered}
use Rattle.order_laws.proofs.Moves.Giving.{HandsUp, IsInTime, leaving-copy}
use Rattle.order_laws.proofs.Moves.GivenRows.{parked-hands, passed-hands}
use Rattle.order_laws.proofs.Moves.Hands.{Has, Hands}
use Rattle.order_laws.proofs.Moves.PlainRows.{dropped-hands}
use Rattle.order_laws.proofs.Moves.RowTime.{RowTime}
use Rattle.order_laws.proofs.Moves.Takers.{takes-gets}

module _ (n : ℕ) (w : Where) (p : DirValue) (ns : List Node) (f : BusFacts n w p ns) (c choice x : ℕ) (leaves : child_leaving choice (child_at c ns) ≡ Some x) (free : pending_below x (child_at c ns) ≡ None) where
  there : c < length ns
  there = leaves-there choice c x ns leaves

  ok-at : (i : ℕ) → i < length ns → IsChildOk n (child_at i ns)
  ok-at i l = all-kids_at (IsChildOk n) no_node ns i f.kids l

  -- the copy that it hands up
  one : (q : DirValue) (ms : List Node) (time : RowTime w p q) → HandsUp x (where_path w) (bound_at w p) (bound_at w q) (stamp_of p) (stamp_of q) (Has x ns ms) time.time.next c (child_at c ns) (child_given x (child_at c ns))
  one q ms time = leaving-copy x (where_path w) (bound_at w p) (bound_at w q) (stamp_of p) (stamp_of q) (Has x ns ms) time.time.next n choice c (child_at c ns) leaves free (ok-at c there) (timed (child_at c ns) (kid-ordered w p ns c f.ordered there)) where
    timed : (m : Node) → AllByRecursion IsOrdered (dirs_in (spot_in (where_path w) p c) m) → IsInTime x (where_path w) (bound_at w p) (bound_at w q) (stamp_of p) (stamp_of q) (Has x ns ms) time.time.next c m
    timed (leaf_node v) h = tt
    timed (dir_node d ks) h = h.0.clocked

  pub out_gone-row : RowTime w p (counted p) → Hands x w p ns (counted p) (map_from (only c (child_give_up x)) 0 ns)
  out_gone-row time = dropped-hands x w p (counted p) ns refl refl refl time c

  pub parked-row : (let q : DirValue = with_parked x (child_given x (child_at c ns)) (counted p) in RowTime w p q → Hands x w p ns q (map_from (only c (child_give_up x)) 0 ns))
  parked-row time =
      let q : DirValue = with_parked x (child_given x (child_at c ns)) (counted p) in
      parked-hands x w p q ns time refl refl c there (child_given x (child_at c ns)) (words-pushed x p.parked (record { item = x; words = child_given x (child_at c ns) }) refl) (one q (map_from (only c (child_give_up x)) 0 ns) time)

  within : x < n
  within = (child-give_up n x choice (child_at c ns) (ok-at c there) leaves free).known

  pub leave_to-row : (k : ℕ) → leave_taker c x p ns ≡ Some k → RowTime w p (counted p) → Hands x w p ns (counted p) (map_from (passed_on c k x (child_given x (child_at c ns)) (stamp_of (counted p))) 0 ns)
  leave_to-row k taker time = passed-hands x w p (counted p) ns time refl refl c there (child_given x (child_at c ns)) refl k (λ l. takes-gets n x within (child_given x (child_at c ns)) (stamp_of (counted p)) (child_at k ns) (ok-at k l) (inr (leave_taker-room c x p ns k taker))) (one (counted p) (map_from (passed_on c k x (child_given x (child_at c ns)) (stamp_of (counted p))) 0 ns) time)
