-- The request of child c to read item x. Source: the DDM protocol's read, with combined reads.
-- Letters: p is the parent, ns are its children, c and k child numbers, x is the item.
-- To be believed: it is what the machine is.
use Rattle.std.specs.Prelude.{ℕ, Bool, true, false, List, Option, Some, None}
use Rattle.tree_model.specs.DdmTypes.declared.answers.TxKind.TheVariants.{ReadTx, DataTx}
use Rattle.tree_model.specs.DdmTypes.declared.answers.PendingWhy.{PendingWhy}
use Rattle.tree_model.specs.DdmTypes.declared.answers.Place.{Place}
use Rattle.tree_model.specs.DdmTypes.declared.keys.Stamp.{Stamp}
use Rattle.tree_model.specs.State.Lists.{map_from, find_from}
use Rattle.tree_model.specs.State.States.{is_held}
use Rattle.tree_model.specs.State.Values.{Note, no_note, local, up_read, up_erase, DirValue, Node}
use Rattle.tree_model.specs.State.Directory.{dir_hold, dir_note, with_note, joined_by, parked_words, pushed_down}
use Rattle.tree_model.specs.State.Directory.{pushed_request, without_parked, pending, stamp_of, counted}
use Rattle.tree_model.specs.State.Child.{child_full_for, child_request_taken}
use Rattle.tree_model.specs.Turns.Grant.{Grant, Judged, nothing_there, granted, is_pending, unless_full, own_down_full, own_requests_full}
use Rattle.tree_model.specs.Turns.Children.{child_at, other_holds, only, read_from}

module _ (c x : ℕ) (p : DirValue) (ns : List Node) where
  -- the request joins the read that is under way
  unfoldable pub joins : Grant
  joins = record {
    kind = ReadTx;
    item = x;
    source = Place.Child c;
    taker = Place.Joined;
    parent = with_note x (joined_by c (dir_note x p)) (counted p);
    kids = map_from (only c child_request_taken) 0 ns;
  }

  -- child k, the lowest other one that holds the item, is told to answer
  unfoldable pub read_of_child : ℕ → Grant
  read_of_child k = record {
    kind = ReadTx;
    item = x;
    source = Place.Child c;
    taker = Place.Child k;
    parent = with_note x (local c 0) (counted p);
    kids = map_from (read_from c k x (stamp_of (counted p))) 0 ns;
  }

  -- the parked copy alone holds it: it leaves parking as data, which the parent itself will take
  unfoldable pub read_of_parked : Stamp → List ℕ → Grant
  read_of_parked above words = record {
    kind = ReadTx;
    item = x;
    source = Place.Child c;
    taker = Place.Parking;
    parent = pushed_down DataTx x words above (without_parked x (with_note x (up_read c 0) (counted p)));
    kids = map_from (only c child_request_taken) 0 ns;
  }

  -- the parent doesn't hold it: the read goes up
  unfoldable pub read_of_parent : Grant
  read_of_parent = record {
    kind = ReadTx;
    item = x;
    source = Place.Child c;
    taker = Place.Parent;
    parent = pushed_request ReadTx x (with_note x (up_read c 0) (counted p));
    kids = map_from (only c child_request_taken) 0 ns;
  }

  -- a parent that holds the item, by the lowest other child that does and the parked copy
  abbrev pub read_held : Stamp → Option ℕ → Option (List ℕ) → Judged
  read_held above (Some k) parked = unless_full (child_full_for ReadTx x (child_at k ns)) (read_of_child k)
  read_held above None (Some words) = unless_full (own_down_full p) (read_of_parked above words)
  read_held above None None = nothing_there

  abbrev pub read_granted : Stamp → Bool → Judged
  read_granted above true = read_held above (find_from (other_holds c x) 0 ns) (parked_words x p)
  read_granted above false = unless_full (own_requests_full p) read_of_parent

  abbrev pub read_unless_pending : Stamp → Option PendingWhy → Judged
  read_unless_pending above (Some why) = is_pending p.bus x why
  read_unless_pending above None = read_granted above (is_held (dir_hold x p))

  -- a read that is under way is joined; else the item must not be pending
  abbrev pub request_read : Stamp → Note → Judged
  request_read above (local first joined) = granted joins
  request_read above (up_read first joined) = granted joins
  request_read above no_note = read_unless_pending above (pending x p)
  request_read above (up_erase d) = read_unless_pending above (pending x p)
