-- The rows of the first entry of the parent's down list, by its kind.
-- Letters: s is the situation.
use Rattle.std.specs.Prelude.{ℕ, false, not, ◌&&◌, nat_eq, [], Option, None, is_some, unwrap_or, option_map}
use Rattle.std.specs.Prelude.{if◌then◌else◌}
use Rattle.protocol_table.specs.DdmTypes.declared.answers.TxKind.TheVariants.{ReadTx, DataTx, EraseTx, ExclusiveTx}
use Rattle.protocol_table.specs.DdmTypes.declared.answers.TxKind.TheVariants.{InjectTx}
use Rattle.protocol_table.specs.DdmTypes.declared.answers.Place.{Place}
use Rattle.protocol_table.specs.DdmTypes.declared.answers.BusyCause.TheVariants.{ItemPending}
use Rattle.protocol_table.specs.DdmTypes.declared.sizes.Hold.{Hold}
use Rattle.tree_model.specs.State.Lists.{find_from, first_given, first_some}
use Rattle.tree_model.specs.State.Values.{no_note}
use Rattle.tree_model.specs.State.Directory.{with_note, with_hold, with_answering, note_why, is_local, is_up_read}
use Rattle.tree_model.specs.State.Directory.{is_up_erase, parked_words, is_parked, pushed_reply, with_parked}
use Rattle.tree_model.specs.State.Directory.{without_parked, place_released}
use Rattle.tree_model.specs.State.Child.{child_take_exclusive, child_answer, child_take_inject, reader_has_place}
use Rattle.tree_model.specs.Turns.Children.{child_at, holds_item, waits_with_room, has_room, full_to_lose, only, loses}
use Rattle.tree_model.specs.Turns.Children.{reader_takes}
use Rattle.tree_model.specs.Turns.Down.{without_up_erase}
use Rattle.protocol_table.specs.Situation.{Situation, is_entry, is_any_entry}
use Rattle.protocol_table.specs.Row.{Row, grants, refuses, note, always, some_child, lowest, named_child, joined_set}
use Rattle.protocol_table.specs.Row.{none, full, at_child, at_readers, own_replies, readers, each, unchanged, stamp}

-- a child of this bus still owes data to others: no entry of the item comes down before that
abbrev pub entry_waits : Row
entry_waits = refuses (record {
  asked = is_any_entry;
  cause = λ s.
      if is_local (note s) then option_map (λ why. ItemPending s.parent.bus s.item why) (note_why (note s)) else None;
})

-- exclusive: the child that erases is told exclusive
abbrev pub exclusive_arrives : Row
exclusive_arrives = grants (record {
  asked = is_entry ExclusiveTx;
  applies = λ s. is_up_erase (note s);
  needs = λ s. at_child ExclusiveTx (named_child (note s)) s;
  kind = ExclusiveTx;
  to = λ s. Place.Child (named_child (note s));
  children = λ s. each (only (named_child (note s)) (child_take_exclusive s.item (stamp s))) s;
  parent = λ s. with_note s.item no_note s.turned;
})

-- erase: every child is told to lose the item; the parked copy ends, and so does an erase that was sent up
abbrev pub erase_arrives : Row
erase_arrives = grants (record {
  asked = is_entry EraseTx;
  applies = always;
  needs = λ s. full (first_given (full_to_lose s.item) 0 s.children);
  kind = EraseTx;
  to = λ s. Place.All;
  children = λ s. each (loses s.item (stamp s)) s;
  parent = λ s. with_note s.item (without_up_erase (note s)) (without_parked s.item s.turned);
})

-- read: the lowest child that holds the item is told to answer
abbrev pub read_answered_by_child : Row
read_answered_by_child = grants (record {
  asked = is_entry ReadTx;
  applies = λ s. some_child (holds_item s.item) s;
  needs = λ s. at_child ReadTx (lowest (holds_item s.item) s) s;
  kind = ReadTx;
  to = λ s. Place.Child (lowest (holds_item s.item) s);
  children = λ s. each (only (lowest (holds_item s.item) s) (child_answer s.item (stamp s))) s;
  parent = λ s. s.turned;
})

-- read, and the parked copy alone holds the item: its data goes up, and it stays
abbrev pub read_answered_by_parking : Row
read_answered_by_parking = grants (record {
  asked = is_entry ReadTx;
  applies = λ s. is_parked s.item s.parent;
  needs = own_replies;
  kind = ReadTx;
  to = λ s. Place.Parking;
  children = unchanged;
  parent = λ s.
      pushed_reply s.item (unwrap_or (parked_words s.item s.parent) [])
      (with_answering s.item false (with_hold s.item Hold.Shared s.turned));
})

-- data: every reader is told data
abbrev pub data_arrives : Row
data_arrives = grants (record {
  asked = is_entry DataTx;
  applies = λ s. is_up_read (note s);
  needs = at_readers;
  kind = DataTx;
  to = readers;
  children = λ s. each (reader_takes (note s) s.item s.words (stamp s)) s;
  parent = λ s. with_note s.item no_note s.turned;
})

-- inject, and one child reads: it is told inject
abbrev pub inject_for_reader : Row
inject_for_reader = grants (record {
  asked = is_entry InjectTx;
  applies = λ s.
      is_up_read (note s)
      && (nat_eq (joined_set (note s)) 0
      && reader_has_place s.item (child_at (named_child (note s)) s.children));
  needs = λ s. at_child InjectTx (named_child (note s)) s;
  kind = InjectTx;
  to = λ s. Place.Child (named_child (note s));
  children = λ s. each (only (named_child (note s)) (child_take_inject s.item s.words (stamp s))) s;
  parent = λ s. with_note s.item no_note s.turned;
})

-- inject, and several children read: every reader is told data, and the parent still holds the item Exclusive
abbrev pub inject_for_readers : Row
inject_for_readers = grants (record {
  asked = is_entry InjectTx;
  applies = λ s. is_up_read (note s) && not (nat_eq (joined_set (note s)) 0);
  needs = at_readers;
  kind = InjectTx;
  to = λ s. Place.Readers;
  children = λ s. each (reader_takes (note s) s.item s.words (stamp s)) s;
  parent = λ s. with_note s.item no_note s.turned;
})

-- who takes an inject that nobody reads: a child with room, the lowest that waits for the item before the others
abbrev pub destination : Situation → Option ℕ
destination s =
    first_some (find_from (waits_with_room s.item) 0 s.children) (find_from (has_room s.item) 0 s.children)

-- inject that nobody reads, and a child has room: it is told inject, and the parking place is kept no more
abbrev pub inject_for_child : Row
inject_for_child = grants (record {
  asked = is_entry InjectTx;
  applies = λ s. not (is_up_read (note s)) && is_some (destination s);
  needs = none;
  kind = InjectTx;
  to = λ s. Place.Child (unwrap_or (destination s) 0);
  children = λ s. each (only (unwrap_or (destination s) 0) (child_take_inject s.item s.words (stamp s))) s;
  parent = λ s. place_released s.turned;
})

-- inject that nobody reads, and no child has room: the copy is parked in the place that was kept for it
abbrev pub inject_for_parking : Row
inject_for_parking = grants (record {
  asked = is_entry InjectTx;
  applies = λ s.
      not (is_up_read (note s)) && (not (is_parked s.item s.parent) && not (nat_eq s.parent.reserved 0));
  needs = none;
  kind = InjectTx;
  to = λ s. Place.Parking;
  children = unchanged;
  parent = λ s. with_parked s.item s.words (place_released s.turned);
})
