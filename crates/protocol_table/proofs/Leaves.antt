-- A copy that leaves a child is judged as the table says.
-- Letters: p is the parent, ns are its children, c is a child number, x an item.
use Rattle.std.proofs.Common.{◌≡◌, ℕ, Bool, true, false, List, [], ◌∷◌, Option, Some, None, refl}
use Rattle.std.specs.Prelude.{◌||◌, is_some}
use Rattle.protocol_table.specs.DdmTypes.declared.answers.PendingWhy.{PendingWhy}
use Rattle.protocol_table.specs.DdmTypes.declared.keys.Stamp.{Stamp}
use Rattle.protocol_table.specs.DdmTypes.declared.sizes.Hold.{Hold}
use Rattle.tree_model.specs.State.Lists.{find_from}
use Rattle.tree_model.specs.State.States.{is_shared}
use Rattle.tree_model.specs.State.Values.{DirValue, Node}
use Rattle.tree_model.specs.State.Directory.{is_top, dir_hold, is_parked, parking_full, pending}
use Rattle.tree_model.specs.State.Child.{child_hold, pending_below}
use Rattle.tree_model.specs.Turns.Children.{child_at, other_holds}
use Rattle.tree_model.specs.Turns.Leave.{other_copy, out_gone, leave_parked, leave_to, leave_taker, leave_inject}
use Rattle.tree_model.specs.Turns.Leave.{leave_by_hold, leave_unless_pending}
use Rattle.tree_model.specs.Turns.Bus.{leave_turn}
use Rattle.protocol_table.specs.Situation.{Situation, leave, of_child, of_leave}
use Rattle.protocol_table.specs.Row.{says}
use Rattle.protocol_table.specs.Leaves.{leave_dropped, leave_to_parking, leave_to_child}
use Rattle.protocol_table.specs.Leaves.{leave_has_no_room, inject_to_own_parking}
use Rattle.protocol_table.specs.Table.{table, said_of}

or-second : (a b : Bool) → (a || b) ≡ false → b ≡ false
or-second true b e = cc
or-second false b e = e

module _ (above : Stamp) (p : DirValue) (ns : List Node) (c x : ℕ) where
  abbrev leaves : Situation
  leaves = of_child above p ns leave c x []

  passed-said :
      (k : Option ℕ) (top parked full : Bool) → leave_taker c x p ns ≡ k → is_top p ≡ top → is_parked x p ≡ parked
      → parking_full p ≡ full
      → leave_inject c x p ns (leave_taker c x p ns)
      ≡ says (leave_to_child ∷ leave_has_no_room ∷ inject_to_own_parking ∷ []) leaves
  unfolding leave_to leave_parked
  passed-said (Some k) top parked full found at there room = rw found refl
  passed-said None true parked full found at there room = rw (found, at) refl
  passed-said None false true full found at there room = rw (found, at, there) refl
  passed-said None false false true found at there room = rw (found, at, there, room) refl
  passed-said None false false false found at there room = rw (found, at, there, room) refl

  passed : leave_inject c x p ns (leave_taker c x p ns)
      ≡ says (leave_to_child ∷ leave_has_no_room ∷ inject_to_own_parking ∷ []) leaves
  passed = passed-said (leave_taker c x p ns) (is_top p) (is_parked x p) (parking_full p) refl refl refl refl

  shared-said : (other shared full : Bool) → child_hold x (child_at c ns) ≡ Hold.Shared → other_copy c x p ns ≡ other
      → is_shared (dir_hold x p) ≡ shared → parking_full p ≡ full
      → leave_by_hold c x p ns (child_hold x (child_at c ns))
      ≡ says (leave_dropped ∷ leave_to_parking ∷ leave_to_child ∷ leave_has_no_room ∷ inject_to_own_parking ∷ []) leaves
  unfolding out_gone leave_parked
  shared-said true shared full is other above_is room = rw (is, other) refl
  shared-said false true true is other above_is room =
      rw (is, other, above_is, or-second (is_some (find_from (other_holds c x) 0 ns)) (is_parked x p) other, room) refl
  shared-said false true false is other above_is room =
      rw (is, other, above_is, or-second (is_some (find_from (other_holds c x) 0 ns)) (is_parked x p) other, room) refl
  shared-said false false full is other above_is room = rw (is, other, above_is) passed

  hold-said : (h : Hold) → child_hold x (child_at c ns) ≡ h
      → leave_by_hold c x p ns (child_hold x (child_at c ns))
      ≡ says (leave_dropped ∷ leave_to_parking ∷ leave_to_child ∷ leave_has_no_room ∷ inject_to_own_parking ∷ []) leaves
  hold-said Hold.Invalid e = rw e passed
  hold-said Hold.Shared e =
      shared-said (other_copy c x p ns) (is_shared (dir_hold x p)) (parking_full p) e refl refl refl
  hold-said Hold.Exclusive e = rw e passed

  pending-said : (why : Option PendingWhy) (below : Option (ℕ × PendingWhy)) → pending x p ≡ why
      → pending_below x (child_at c ns) ≡ below
      → leave_unless_pending c x p ns (pending x p) (pending_below x (child_at c ns)) ≡ says table leaves
  pending-said (Some why) below e f = rw e refl
  pending-said None (Some w) e f = rw (e, f) refl
  pending-said None None e f = rw (e, f) (hold-said (child_hold x (child_at c ns)) refl)

module _ (above : Stamp) (p : DirValue) (ns : List Node) (c : ℕ) where
  pub leave-said : (o : Option ℕ) → leave_turn above p ns c o ≡ said_of (of_leave above p ns c o)
  leave-said None = refl
  leave-said (Some x) =
      pending-said above p ns c x (pending x p) (pending_below x (child_at c ns)) refl refl
