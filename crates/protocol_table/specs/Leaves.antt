-- The rows of a copy that leaves a child: an out, where the item has another copy or is parked at the parent, or an
-- inject, which passes the copy on.
-- Letters: s is the situation.
use Rattle.std.specs.Prelude.{ℕ, not, ◌&&◌, ◌||◌, Option, is_some, unwrap_or, option_map}
use Rattle.protocol_table.specs.DdmTypes.declared.answers.TxKind.TheVariants.{InjectTx, OutTx}
use Rattle.protocol_table.specs.DdmTypes.declared.answers.Place.{Place}
use Rattle.protocol_table.specs.DdmTypes.declared.answers.BusyCause.TheVariants.{ItemPending, NoRoom}
use Rattle.tree_model.specs.State.Lists.{find_from, first_some, some_if}
use Rattle.tree_model.specs.State.States.{is_shared}
use Rattle.tree_model.specs.State.Directory.{is_top, is_parked, with_parked, pending}
use Rattle.tree_model.specs.State.Child.{child_hold, child_give_up, child_given, pending_below}
use Rattle.tree_model.specs.Turns.Children.{child_at, other_holds, other_waits, room_after, room_before, only}
use Rattle.tree_model.specs.Turns.Children.{passed_on}
use Rattle.protocol_table.specs.Situation.{Situation, is_leave}
use Rattle.protocol_table.specs.Row.{Row, grants, refuses, hold, some_child, none, own_parking, each, stamp}

-- the item is pending on this bus
abbrev pub leave_pending : Row
leave_pending = refuses (record {
  asked = is_leave;
  cause = λ s. option_map (λ why. ItemPending s.parent.bus s.item why) (pending s.item s.parent);
})

-- the item is pending on the child's own bus
abbrev pub leave_pending_below : Row
leave_pending_below = refuses (record {
  asked = is_leave;
  cause = λ s.
      option_map (λ below. ItemPending below.0 s.item below.1) (pending_below s.item (child_at s.child s.children));
})

-- the copy is Shared, and this bus has another: it is dropped
abbrev pub leave_dropped : Row
leave_dropped = grants (record {
  asked = is_leave;
  applies = λ s.
      is_shared (child_hold s.item (child_at s.child s.children))
      && (some_child (other_holds s.child s.item) s || is_parked s.item s.parent);
  needs = none;
  kind = OutTx;
  to = λ s. Place.Gone;
  children = λ s. each (only s.child (child_give_up s.item)) s;
  parent = λ s. s.turned;
})

-- the copy is Shared, the last on this bus, and the parent holds the item Shared: it is parked there
abbrev pub leave_to_parking : Row
leave_to_parking = grants (record {
  asked = is_leave;
  applies = λ s. is_shared (child_hold s.item (child_at s.child s.children)) && is_shared (hold s);
  needs = own_parking;
  kind = OutTx;
  to = λ s. Place.Parking;
  children = λ s. each (only s.child (child_give_up s.item)) s;
  parent = λ s. with_parked s.item (child_given s.item (child_at s.child s.children)) s.turned;
})

-- Else the copy is passed on: to the lowest other child that waits for it and has room, else to the first after this
-- one with room, and on the top's bus also to the first before it.
abbrev pub destination : Situation → Option ℕ
destination s =
    first_some (find_from (other_waits s.child s.item) 0 s.children)
    (first_some (find_from (room_after s.child s.item) 0 s.children)
    (find_from (room_before (is_top s.parent) s.child s.item) 0 s.children))

abbrev pub leave_to_child : Row
leave_to_child = grants (record {
  asked = is_leave;
  applies = λ s. is_some (destination s);
  needs = none;
  kind = InjectTx;
  to = λ s. Place.Child (unwrap_or (destination s) 0);
  children = λ s.
      each (passed_on s.child (unwrap_or (destination s) 0) s.item
      (child_given s.item (child_at s.child s.children)) (stamp s)) s;
  parent = λ s. s.turned;
})

-- nobody takes it, and this is the top's bus
abbrev pub leave_has_no_room : Row
leave_has_no_room = refuses (record {
  asked = is_leave;
  cause = λ s. some_if (is_top s.parent) (NoRoom s.item);
})

-- nobody takes it: it is parked at the parent
abbrev pub inject_to_own_parking : Row
inject_to_own_parking = grants (record {
  asked = is_leave;
  applies = λ s. not (is_parked s.item s.parent);
  needs = own_parking;
  kind = InjectTx;
  to = λ s. Place.Parking;
  children = λ s. each (only s.child (child_give_up s.item)) s;
  parent = λ s. with_parked s.item (child_given s.item (child_at s.child s.children)) s.turned;
})
