-- The reply of child c, which carries item x with these words. Source: the DDM protocol's data.
-- Letters: p is the parent, ns are its children, c is a child number, x the item.
-- To be believed: it is what the machine is.
use Rattle.std.specs.Prelude.{ℕ, Bool, true, false, List}
use Rattle.tree_model.specs.DdmTypes.declared.answers.TxKind.TheVariants.{DataTx}
use Rattle.tree_model.specs.DdmTypes.declared.answers.Place.{Place}
use Rattle.tree_model.specs.DdmTypes.declared.sizes.Hold.{Hold}
use Rattle.tree_model.specs.State.Lists.{map_from, first_given}
use Rattle.tree_model.specs.State.Values.{Note, no_note, local, up_read, up_erase, DirValue, Node}
use Rattle.tree_model.specs.State.Directory.{is_answering, with_hold, with_note, with_answering, pushed_reply, stamp_of, counted}
use Rattle.tree_model.specs.State.Child.{child_reply_taken}
use Rattle.tree_model.specs.Turns.Grant.{Grant, Judged, nothing_there, unless_full, own_replies_full, data_taker}
use Rattle.tree_model.specs.Turns.Children.{reader_full, only, replied_by}

module _ (c x : ℕ) (words : List ℕ) (p : DirValue) (ns : List Node) where
  -- data for the readers of a note Local
  unfoldable pub reply_to_readers : ℕ → ℕ → Grant
  reply_to_readers first joined = record {
    kind = DataTx;
    item = x;
    source = Place.Child c;
    taker = data_taker first joined;
    parent = with_note x no_note (counted p);
    kids = map_from (replied_by c (local first joined) x words (stamp_of (counted p))) 0 ns;
  }

  -- the parent is answering: data goes up, and it holds the item Shared
  unfoldable pub reply_to_parent : Grant
  reply_to_parent = record {
    kind = DataTx;
    item = x;
    source = Place.Child c;
    taker = Place.Parent;
    parent = pushed_reply x words (with_answering x false (with_hold x Hold.Shared (counted p)));
    kids = map_from (only c child_reply_taken) 0 ns;
  }

  abbrev pub reply_answering : Bool → Judged
  reply_answering true = unless_full (own_replies_full p) reply_to_parent
  reply_answering false = nothing_there

  abbrev pub reply_by_note : Note → Judged
  reply_by_note (local first joined) = unless_full (first_given (reader_full (local first joined) x) 0 ns) (reply_to_readers first joined)
  reply_by_note no_note = reply_answering (is_answering x p)
  reply_by_note (up_read first joined) = reply_answering (is_answering x p)
  reply_by_note (up_erase d) = reply_answering (is_answering x p)
