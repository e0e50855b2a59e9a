-- The time of a bus in each row of its turn.
use Rattle.std.proofs.Common.{◌≡◌, ℕ, ◌+◌, Bool, true, false, List, ◌∷◌, IfSome, refl, subst}
use Rattle.std.specs.Prelude.{if◌then◌else◌}
use Rattle.order_laws.specs.DdmTypes.declared.keys.Stamp.{Stamp}
use Rattle.order_laws.specs.TreeModel.declared.BusTurn.{BusTurn}
use Rattle.order_laws.specs.TreeModel.State.States.{is_exclusive}
use Rattle.order_laws.specs.TreeModel.State.Values.{DownValue, DirValue, Node, Nodes, dir_node}
use Rattle.order_laws.specs.TreeModel.State.Directory.{dir_hold, is_top}
use Rattle.order_laws.specs.TreeModel.State.Place.{Where}
use Rattle.order_laws.specs.TreeModel.Turns.Grant.{Grant}
use Rattle.order_laws.specs.TreeModel.Turns.RequestRead.{joins, read_of_child, read_of_parked, read_of_parent}
use Rattle.order_laws.specs.TreeModel.Turns.RequestErase.{erase_of_all, erase_noted}
use Rattle.order_laws.specs.TreeModel.Turns.Reply.{reply_to_readers, reply_to_parent}
use Rattle.order_laws.specs.TreeModel.Turns.Down.{exclusive_to, erase_of_children, read_by_child, read_by_parked, data_to_readers, inject_to_reader, inject_to_readers, inject_to_child, inject_parked}
use Rattle.order_laws.specs.TreeModel.Turns.Leave.{out_gone, leave_parked, leave_to}
use Rattle.order_laws.proofs.TreeModel.Rows.{Row, row_joins, row_read_of_child, row_read_of_parked, row_read_of_parent, row_erase_of_all, row_reply_to_readers, row_reply_to_parent, row_exclusive_to, row_erase_of_children, row_read_by_child, row_read_by_parked, row_data_to_readers, row_inject_to_reader, row_inject_to_readers, row_inject_to_child, row_inject_parked, row_out_gone, row_out_parked, row_leave_to, row_inject_up}
use Rattle.order_laws.specs.TreeRules.Order.Moments.{GoesOn}
use Rattle.order_laws.specs.Moves.Parent.{moment_in, erased_at}
use Rattle.order_laws.proofs.Moves.Ordered.{OrderedAt}
use Rattle.order_laws.proofs.Moves.Next.{TurnTime, plain-time, plain-ends, taken-time, taken-ends}

-- the new moment goes on from the parent's own ends
pub record RowTime (w : Where) (p q : DirValue) : Type 0 where
  pub time : TurnTime w p q
  pub ends : (x : ℕ) → erased_at x w q ≡ erased_at x w p → IfSome (erased_at x w p) (GoesOn (moment_in w q))

module _ (w : Where) (p : DirValue) (below : Nodes) (ordered : OrderedAt w (dir_node p below)) where
  -- nothing is taken from the down list
  plain : (q : DirValue) → q.level ≡ p.level → q.count ≡ p.count + 1 → q.epoch ≡ p.epoch → RowTime w p q
  plain q level count epoch = record { time = plain-time p q level count epoch w below ordered; ends = λ x same. plain-ends p q level count epoch x w below ordered }

  -- the first entry is
  taken : (e : DownValue) (rest : List DownValue) → p.down ≡ e ∷ rest → (q : DirValue) → q.level ≡ p.level → q.count ≡ p.count + 1 → q.down ≡ rest → q.epoch ≡ (if is_top p then p.epoch else e.stamp) → RowTime w p q
  taken e rest front q level count down epoch = record { time = taken-time p q level count e rest front down epoch w below ordered; ends = λ x same. subst (λ o. IfSome o (GoesOn (moment_in w q))) same (taken-ends p q level count e rest front down epoch x w below ordered) }

  module _ (above : Stamp) (ns : List Node) where
    noted : (c x : ℕ) (b : Bool) → RowTime w p (erase_noted above c x p ns b)
    noted c x true = plain _ refl refl refl
    noted c x false = plain _ refl refl refl

    pub row-time : (t : BusTurn) (g : Grant) → Row above p ns t g → RowTime w p g.parent
    unfolding joins read_of_child read_of_parked read_of_parent erase_of_all reply_to_readers reply_to_parent exclusive_to erase_of_children read_by_child read_by_parked data_to_readers inject_to_reader inject_to_readers inject_to_child inject_parked out_gone leave_parked leave_to
    row-time t g (row_joins c x _ _) = plain _ refl refl refl
    row-time t g (row_read_of_child c x k _ _ _ _ _) = plain _ refl refl refl
    row-time t g (row_read_of_parked c x words _ _ _ _ _ _) = plain _ refl refl refl
    row-time t g (row_read_of_parent c x _ _ _ _) = plain _ refl refl refl
    row-time t g (row_erase_of_all c x _ _ _ _) = noted c x (is_exclusive (dir_hold x p))
    row-time t g (row_reply_to_readers c x words first joined _ _ _) = plain _ refl refl refl
    row-time t g (row_reply_to_parent c x words _ _ _ _) = plain _ refl refl refl
    row-time t g (row_exclusive_to e rest d front _ _ _) = taken e rest front _ refl refl refl refl
    row-time t g (row_erase_of_children e rest front _ _ _) = taken e rest front _ refl refl refl refl
    row-time t g (row_read_by_child e rest k front _ _ _ _) = taken e rest front _ refl refl refl refl
    row-time t g (row_read_by_parked e rest words front _ _ _ _ _) = taken e rest front _ refl refl refl refl
    row-time t g (row_data_to_readers e rest first joined front _ _ _) = taken e rest front _ refl refl refl refl
    row-time t g (row_inject_to_reader e rest d joined front _ _ _ _ _) = taken e rest front _ refl refl refl refl
    row-time t g (row_inject_to_readers e rest first joined front _ _ _ _) = taken e rest front _ refl refl refl refl
    row-time t g (row_inject_to_child e rest k front _ _ _ _) = taken e rest front _ refl refl refl refl
    row-time t g (row_inject_parked e rest front _ _ _ _ _ _) = taken e rest front _ refl refl refl refl
    row-time t g (row_out_gone c choice x _ _ _ _ _) = plain _ refl refl refl
    row-time t g (row_out_parked c choice x _ _ _ _ _ _ _ _) = plain _ refl refl refl
    row-time t g (row_leave_to c choice x k _ _ _ _ _) = plain _ refl refl refl
    row-time t g (row_inject_up c choice x _ _ _ _ _ _ _ _) = plain _ refl refl refl
