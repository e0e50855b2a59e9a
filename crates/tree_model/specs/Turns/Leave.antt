-- A copy of item x leaves child c: an out, where the item has another copy or is parked at the parent, or an inject, which
-- passes it on. Source: the DDM protocol's out and inject.
-- Letters: p is the parent, ns are its children, c and k child numbers, x is the item.
-- To be believed: it is what the machine is.
use Rattle.std.specs.Prelude.{ℕ, Bool, true, false, ◌||◌, List, Option, Some, None, is_some, if◌then◌else◌}
use Rattle.tree_model.specs.DdmTypes.declared.answers.TxKind.{TxKind}
use Rattle.tree_model.specs.DdmTypes.declared.answers.TxKind.TheVariants.{InjectTx, OutTx}
use Rattle.tree_model.specs.DdmTypes.declared.answers.PendingWhy.{PendingWhy}
use Rattle.tree_model.specs.DdmTypes.declared.answers.BusyCause.TheVariants.{ParkingFull, NoRoom}
use Rattle.tree_model.specs.DdmTypes.declared.answers.Place.{Place}
use Rattle.tree_model.specs.DdmTypes.declared.sizes.Hold.{Hold}
use Rattle.tree_model.specs.State.Lists.{map_from, find_from, first_some}
use Rattle.tree_model.specs.State.States.{is_shared}
use Rattle.tree_model.specs.State.Values.{DirValue, Node}
use Rattle.tree_model.specs.State.Directory.{is_top, dir_hold, parking_full, is_parked, with_parked, pending, stamp_of, counted}
use Rattle.tree_model.specs.State.Child.{child_hold, pending_below, child_given, child_give_up}
use Rattle.tree_model.specs.Turns.Grant.{Grant, Judged, nothing_there, refused, granted, is_pending}
use Rattle.tree_model.specs.Turns.Children.{child_at, other_holds, other_waits, room_after, room_before, only, passed_on}

module _ (c x : ℕ) (p : DirValue) (ns : List Node) where
  -- another child than c, or the parked copy, holds the item
  abbrev pub other_copy : Bool
  other_copy = is_some (find_from (other_holds c x) 0 ns) || is_parked x p

  -- an out: the copy is dropped
  unfoldable pub out_gone : Grant
  out_gone = record {
    kind = OutTx;
    item = x;
    source = Place.Child c;
    taker = Place.Gone;
    parent = counted p;
    kids = map_from (only c (child_give_up x)) 0 ns;
  }

  -- the copy is parked at the parent, by an out or an inject
  unfoldable pub leave_parked : TxKind → Grant
  leave_parked kind = record {
    kind = kind;
    item = x;
    source = Place.Child c;
    taker = Place.Parking;
    parent = with_parked x (child_given x (child_at c ns)) (counted p);
    kids = map_from (only c (child_give_up x)) 0 ns;
  }

  -- child k is told inject
  unfoldable pub leave_to : ℕ → Grant
  leave_to k = record {
    kind = InjectTx;
    item = x;
    source = Place.Child c;
    taker = Place.Child k;
    parent = counted p;
    kids = map_from (passed_on c k x (child_given x (child_at c ns)) (stamp_of (counted p))) 0 ns;
  }

  -- who takes the copy: the lowest other child that waits for it and has room, else the first behind c with room, else, on
  -- the top's bus, the first before c with room
  abbrev pub leave_taker : Option ℕ
  leave_taker =
      first_some (find_from (other_waits c x) 0 ns)
      (first_some (find_from (room_after c x) 0 ns) (find_from (room_before (is_top p) c x) 0 ns))

  -- where a copy is parked already, which doesn't arise, nothing is there
  abbrev pub parked_unless_full : TxKind → Judged
  parked_unless_full kind =
      if is_parked x p then nothing_there
      else (if parking_full p then refused (ParkingFull p.bus) else granted (leave_parked kind))

  -- an inject; where nobody takes it, it is parked, and on the top's bus refused
  abbrev pub leave_inject : Option ℕ → Judged
  leave_inject (Some k) = granted (leave_to k)
  leave_inject None = if is_top p then refused (NoRoom x) else parked_unless_full InjectTx

  -- Shared with another holder: gone. Shared, the last copy here, and the parent holds it Shared: parked. Else an inject.
  abbrev pub leave_shared : Bool → Bool → Judged
  leave_shared true parent_shared = granted out_gone
  leave_shared false true = parked_unless_full OutTx
  leave_shared false false = leave_inject leave_taker

  abbrev pub leave_by_hold : Hold → Judged
  leave_by_hold Hold.Invalid = leave_inject leave_taker
  leave_by_hold Hold.Shared = leave_shared other_copy (is_shared (dir_hold x p))
  leave_by_hold Hold.Exclusive = leave_inject leave_taker

  -- the item must be pending neither on this bus nor on the child's own
  abbrev pub leave_unless_pending : Option PendingWhy → Option (ℕ × PendingWhy) → Judged
  leave_unless_pending (Some why) below = is_pending p.bus x why
  leave_unless_pending None (Some w) = is_pending w.0 x w.1
  leave_unless_pending None None = leave_by_hold (child_hold x (child_at c ns))

  abbrev pub leave_of : Judged
  leave_of = leave_unless_pending (pending x p) (pending_below x (child_at c ns))
