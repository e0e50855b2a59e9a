-- The rows of a child's request: to read an item, or to erase all other copies of it.
-- Letters: s is the situation.
use Rattle.std.specs.Prelude.{not, ◌&&◌, ◌||◌, [], option_map, unwrap_or}
use Rattle.protocol_table.specs.DdmTypes.declared.answers.TxKind.TheVariants.{ReadTx, DataTx, EraseTx, ExclusiveTx}
use Rattle.protocol_table.specs.DdmTypes.declared.answers.Place.{Place}
use Rattle.protocol_table.specs.DdmTypes.declared.answers.BusyCause.TheVariants.{ItemPending}
use Rattle.tree_model.specs.State.Lists.{first_given, first_some}
use Rattle.tree_model.specs.State.States.{is_held, is_exclusive}
use Rattle.tree_model.specs.State.Values.{local, up_read, up_erase}
use Rattle.tree_model.specs.State.Leaf.{blank}
use Rattle.tree_model.specs.State.Directory.{with_note, is_local, is_up_read, joined_by, is_parked, parked_words}
use Rattle.tree_model.specs.State.Directory.{pushed_down, pushed_request, without_parked, pending}
use Rattle.tree_model.specs.State.Child.{child_request_taken}
use Rattle.tree_model.specs.Turns.Children.{other_holds, other_full, only, read_from, erased_by}
use Rattle.tree_model.specs.Turns.Grant.{own_down_full, own_requests_full}
use Rattle.protocol_table.specs.Situation.{is_request}
use Rattle.protocol_table.specs.Row.{Row, grants, refuses, note, hold, always, some_child, lowest, none, full}
use Rattle.protocol_table.specs.Row.{at_child, own_down, own_requests, each, stamp}

-- ---- to read

-- a read of the item is under way on this bus: the child joins it
abbrev pub read_joins : Row
read_joins = grants (record {
  asked = is_request ReadTx;
  applies = λ s. is_local (note s) || is_up_read (note s);
  needs = none;
  kind = ReadTx;
  to = λ s. Place.Joined;
  children = λ s. each (only s.child child_request_taken) s;
  parent = λ s. with_note s.item (joined_by s.child (note s)) s.turned;
})

abbrev pub read_pending : Row
read_pending = refuses (record {
  asked = is_request ReadTx;
  cause = λ s. option_map (λ why. ItemPending s.parent.bus s.item why) (pending s.item s.parent);
})

-- another child holds the item: the lowest of them is told to answer
abbrev pub read_from_child : Row
read_from_child = grants (record {
  asked = is_request ReadTx;
  applies = λ s. is_held (hold s) && some_child (other_holds s.child s.item) s;
  needs = λ s. at_child ReadTx (lowest (other_holds s.child s.item) s) s;
  kind = ReadTx;
  to = λ s. Place.Child (lowest (other_holds s.child s.item) s);
  children = λ s. each (read_from s.child (lowest (other_holds s.child s.item) s) s.item (stamp s)) s;
  parent = λ s. with_note s.item (local s.child 0) s.turned;
})

-- the parked copy alone holds it: it goes into the parent's own down list, as data
abbrev pub read_from_parking : Row
read_from_parking = grants (record {
  asked = is_request ReadTx;
  applies = λ s. is_held (hold s) && is_parked s.item s.parent;
  needs = own_down;
  kind = ReadTx;
  to = λ s. Place.Parking;
  children = λ s. each (only s.child child_request_taken) s;
  parent = λ s.
      pushed_down DataTx s.item (unwrap_or (parked_words s.item s.parent) []) s.above
      (without_parked s.item (with_note s.item (up_read s.child 0) s.turned));
})

-- the parent doesn't hold the item: the read goes up
abbrev pub read_sent_up : Row
read_sent_up = grants (record {
  asked = is_request ReadTx;
  applies = λ s. not (is_held (hold s));
  needs = own_requests;
  kind = ReadTx;
  to = λ s. Place.Parent;
  children = λ s. each (only s.child child_request_taken) s;
  parent = λ s. pushed_request ReadTx s.item (with_note s.item (up_read s.child 0) s.turned);
})

-- ---- to erase all other copies

abbrev pub erase_pending : Row
erase_pending = refuses (record {
  asked = is_request EraseTx;
  cause = λ s. option_map (λ why. ItemPending s.parent.bus s.item why) (pending s.item s.parent);
})

-- the parent holds the item Exclusive: every other child is told to lose it, and exclusive waits in the parent's own
-- down list
abbrev pub erase_granted : Row
erase_granted = grants (record {
  asked = is_request EraseTx;
  applies = λ s. is_exclusive (hold s);
  needs = λ s. full (first_some (first_given (other_full s.child s.item) 0 s.children) (own_down_full s.turned));
  kind = EraseTx;
  to = λ s. Place.All;
  children = λ s. each (erased_by s.child s.item (stamp s)) s;
  parent = λ s.
      pushed_down ExclusiveTx s.item (blank s.parent.sizes.width) s.above
      (with_note s.item (up_erase s.child) s.turned);
})

-- it doesn't: every other child is told to lose the item, and the erase goes up
abbrev pub erase_sent_up : Row
erase_sent_up = grants (record {
  asked = is_request EraseTx;
  applies = always;
  needs = λ s. full (first_some (first_given (other_full s.child s.item) 0 s.children) (own_requests_full s.turned));
  kind = EraseTx;
  to = λ s. Place.All;
  children = λ s. each (erased_by s.child s.item (stamp s)) s;
  parent = λ s. pushed_request EraseTx s.item (with_note s.item (up_erase s.child) s.turned);
})
