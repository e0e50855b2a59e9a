-- The request of child c to erase all other copies of item x. Source: the DDM protocol's erase and exclusive.
-- Letters: p is the parent, ns are its children, c is a child number, x the item.
-- To be believed: it is what the machine is.
use Rattle.std.specs.Prelude.{ℕ, Bool, true, false, List, Option, Some, None}
use Rattle.tree_model.specs.DdmTypes.declared.answers.TxKind.TheVariants.{EraseTx, ExclusiveTx}
use Rattle.tree_model.specs.DdmTypes.declared.answers.PendingWhy.{PendingWhy}
use Rattle.tree_model.specs.DdmTypes.declared.answers.QueueName.{QueueName}
use Rattle.tree_model.specs.DdmTypes.declared.answers.Place.{Place}
use Rattle.tree_model.specs.DdmTypes.declared.keys.Stamp.{Stamp}
use Rattle.tree_model.specs.State.Lists.{map_from, first_given, first_some}
use Rattle.tree_model.specs.State.States.{is_exclusive}
use Rattle.tree_model.specs.State.Values.{up_erase, DirValue, Node}
use Rattle.tree_model.specs.State.Leaf.{blank}
use Rattle.tree_model.specs.State.Directory.{dir_hold, with_note, pushed_down, pushed_request, stamp_of, counted}
use Rattle.tree_model.specs.Turns.Grant.{Grant, Judged, is_pending, unless_full, own_down_full, own_requests_full}
use Rattle.tree_model.specs.Turns.Children.{other_full, erased_by}

module _ (above : Stamp) (c x : ℕ) (p : DirValue) (ns : List Node) where
  -- the parent after it: where it holds the item Exclusive, exclusive waits in its own down list, else the erase goes up
  abbrev pub erase_noted : Bool → DirValue
  erase_noted true = pushed_down ExclusiveTx x (blank p.sizes.width) above (with_note x (up_erase c) (counted p))
  erase_noted false = pushed_request EraseTx x (with_note x (up_erase c) (counted p))

  abbrev pub erase_list_full : Bool → Option QueueName
  erase_list_full true = own_down_full p
  erase_list_full false = own_requests_full p

  -- every other child is told to lose the item
  unfoldable pub erase_of_all : Grant
  erase_of_all = record {
    kind = EraseTx;
    item = x;
    source = Place.Child c;
    taker = Place.All;
    parent = erase_noted (is_exclusive (dir_hold x p));
    kids = map_from (erased_by c x (stamp_of (counted p))) 0 ns;
  }

  abbrev pub request_erase : Option PendingWhy → Judged
  request_erase (Some why) = is_pending p.bus x why
  request_erase None =
      unless_full (first_some (first_given (other_full c x) 0 ns) (erase_list_full (is_exclusive (dir_hold x p))))
      erase_of_all
