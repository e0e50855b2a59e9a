-- The first entry of the parent's down list comes down: item x with these words; q is the parent after it was taken.
-- Source: the DDM protocol's read, data, erase, exclusive and inject.
-- Letters: p and q are the parent before and after, ns its children, d and k child numbers, x is the item.
-- To be believed: it is what the machine is.
use Rattle.std.specs.Prelude.{ℕ, false, nat_eq, List, [], ◌∷◌, Option, Some, None, if◌then◌else◌}
use Rattle.tree_model.specs.DdmTypes.declared.answers.TxKind.{TxKind}
use Rattle.tree_model.specs.DdmTypes.declared.answers.TxKind.TheVariants.{ReadTx, DataTx, EraseTx, ExclusiveTx, InjectTx, OutTx}
use Rattle.tree_model.specs.DdmTypes.declared.answers.PendingWhy.{PendingWhy}
use Rattle.tree_model.specs.DdmTypes.declared.answers.Place.{Place}
use Rattle.tree_model.specs.DdmTypes.declared.sizes.Hold.{Hold}
use Rattle.tree_model.specs.State.Lists.{map_from, find_from, first_given, first_some}
use Rattle.tree_model.specs.State.Values.{DownValue, Note, no_note, local, up_read, up_erase, DirValue, Node}
use Rattle.tree_model.specs.State.Directory.{dir_note, with_hold, with_note, with_answering, parked_words, is_parked}
use Rattle.tree_model.specs.State.Directory.{pushed_reply, with_parked, without_parked, place_released, stamp_of}
use Rattle.tree_model.specs.State.Directory.{front_taken}
use Rattle.tree_model.specs.State.Child.{child_full_for, reader_has_place, child_take_exclusive, child_answer, child_take_inject}
use Rattle.tree_model.specs.Turns.Grant.{Grant, Judged, nothing_there, granted, is_pending, unless_full, own_replies_full, data_taker}
use Rattle.tree_model.specs.Turns.Children.{child_at, holds_item, waits_with_room, has_room, full_to_lose}
use Rattle.tree_model.specs.Turns.Children.{reader_full, only, loses, reader_takes}

-- a note UpErase ends
abbrev pub without_up_erase : Note → Note
without_up_erase no_note = no_note
without_up_erase (local first joined) = local first joined
without_up_erase (up_read first joined) = up_read first joined
without_up_erase (up_erase d) = no_note

module _ (x : ℕ) (q : DirValue) (ns : List Node) where
  -- ---- exclusive: the child that erases is told exclusive

  unfoldable pub exclusive_to : ℕ → Grant
  exclusive_to d = record {
    kind = ExclusiveTx;
    item = x;
    source = Place.Parent;
    taker = Place.Child d;
    parent = with_note x no_note q;
    kids = map_from (only d (child_take_exclusive x (stamp_of q))) 0 ns;
  }

  abbrev pub down_exclusive : Note → Judged
  down_exclusive (up_erase d) = unless_full (child_full_for ExclusiveTx x (child_at d ns)) (exclusive_to d)
  down_exclusive no_note = nothing_there
  down_exclusive (local first joined) = nothing_there
  down_exclusive (up_read first joined) = nothing_there

  -- ---- erase: every child is told to lose the item, the parked copy ends, and so does a note UpErase

  unfoldable pub erase_of_children : Grant
  erase_of_children = record {
    kind = EraseTx;
    item = x;
    source = Place.Parent;
    taker = Place.All;
    parent = with_note x (without_up_erase (dir_note x q)) (without_parked x q);
    kids = map_from (loses x (stamp_of q)) 0 ns;
  }

  abbrev pub down_erase : Judged
  down_erase = unless_full (first_given (full_to_lose x) 0 ns) erase_of_children

  -- ---- read: the lowest child that holds the item is told to answer

  unfoldable pub read_by_child : ℕ → Grant
  read_by_child k = record {
    kind = ReadTx;
    item = x;
    source = Place.Parent;
    taker = Place.Child k;
    parent = q;
    kids = map_from (only k (child_answer x (stamp_of q))) 0 ns;
  }

  -- the parked copy answers by itself, and stays
  unfoldable pub read_by_parked : List ℕ → Grant
  read_by_parked words = record {
    kind = ReadTx;
    item = x;
    source = Place.Parent;
    taker = Place.Parking;
    parent = pushed_reply x words (with_answering x false (with_hold x Hold.Shared q));
    kids = ns;
  }

  abbrev pub down_read : Option ℕ → Option (List ℕ) → Judged
  down_read (Some k) parked = unless_full (child_full_for ReadTx x (child_at k ns)) (read_by_child k)
  down_read None (Some words) = unless_full (own_replies_full q) (read_by_parked words)
  down_read None None = nothing_there

  -- ---- entries that carry words

  module _ (words : List ℕ) where
    -- data: every reader is told data
    unfoldable pub data_to_readers : ℕ → ℕ → Grant
    data_to_readers first joined = record {
      kind = DataTx;
      item = x;
      source = Place.Parent;
      taker = data_taker first joined;
      parent = with_note x no_note q;
      kids = map_from (reader_takes (up_read first joined) x words (stamp_of q)) 0 ns;
    }

    abbrev pub down_data : Note → Judged
    down_data (up_read first joined) = unless_full (first_given (reader_full (up_read first joined) x) 0 ns) (data_to_readers first joined)
    down_data no_note = nothing_there
    down_data (local first joined) = nothing_there
    down_data (up_erase d) = nothing_there

    -- inject, and one child reads: it is told inject
    unfoldable pub inject_to_reader : ℕ → Grant
    inject_to_reader d = record {
      kind = InjectTx;
      item = x;
      source = Place.Parent;
      taker = Place.Child d;
      parent = with_note x no_note q;
      kids = map_from (only d (child_take_inject x words (stamp_of q))) 0 ns;
    }

    -- inject, and several read: every reader is told data, and the parent goes on holding the item Exclusive
    unfoldable pub inject_to_readers : ℕ → ℕ → Grant
    inject_to_readers first joined = record {
      kind = InjectTx;
      item = x;
      source = Place.Parent;
      taker = Place.Readers;
      parent = with_note x no_note q;
      kids = map_from (reader_takes (up_read first joined) x words (stamp_of q)) 0 ns;
    }

    -- nobody reads, and child k has room
    unfoldable pub inject_to_child : ℕ → Grant
    inject_to_child k = record {
      kind = InjectTx;
      item = x;
      source = Place.Parent;
      taker = Place.Child k;
      parent = place_released q;
      kids = map_from (only k (child_take_inject x words (stamp_of q))) 0 ns;
    }

    -- nobody reads, and no child has room: the copy is parked in the place that was kept
    unfoldable pub inject_parked : Grant
    inject_parked = record {
      kind = InjectTx;
      item = x;
      source = Place.Parent;
      taker = Place.Parking;
      parent = with_parked x words (place_released q);
      kids = ns;
    }

    -- where no place was kept, or a copy is parked already, which doesn't arise, nothing is there
    abbrev pub inject_to_parking : Judged
    inject_to_parking = if is_parked x q then nothing_there else (if nat_eq q.reserved 0 then nothing_there else granted inject_parked)

    abbrev pub inject_to_taker : Option ℕ → Judged
    inject_to_taker (Some k) = granted (inject_to_child k)
    inject_to_taker None = inject_to_parking

    -- the same where the only reader has no place for it
    abbrev pub inject_to_only_reader : ℕ → Judged
    inject_to_only_reader d =
        if reader_has_place x (child_at d ns)
        then unless_full (child_full_for InjectTx x (child_at d ns)) (inject_to_reader d)
        else nothing_there

    abbrev pub inject_to_read : ℕ → ℕ → Judged
    inject_to_read first joined =
        if nat_eq joined 0 then inject_to_only_reader first
        else unless_full (first_given (reader_full (up_read first joined) x) 0 ns) (inject_to_readers first joined)

    -- who takes it where nobody reads: a child with room, the lowest that waits for the item before the others
    abbrev pub inject_taker : Option ℕ
    inject_taker = first_some (find_from (waits_with_room x) 0 ns) (find_from (has_room x) 0 ns)

    abbrev pub down_inject : Note → Judged
    down_inject (up_read first joined) = inject_to_read first joined
    down_inject no_note = inject_to_taker inject_taker
    down_inject (local first joined) = inject_to_taker inject_taker
    down_inject (up_erase d) = inject_to_taker inject_taker

    -- ---- an entry by its kind

    abbrev pub down_by_kind : TxKind → Judged
    down_by_kind ReadTx = down_read (find_from (holds_item x) 0 ns) (parked_words x q)
    down_by_kind DataTx = down_data (dir_note x q)
    down_by_kind EraseTx = down_erase
    down_by_kind ExclusiveTx = down_exclusive (dir_note x q)
    down_by_kind InjectTx = down_inject (dir_note x q)
    down_by_kind OutTx = nothing_there

    -- an item with a note Local is pending
    abbrev pub down_by_note : TxKind → Note → Judged
    down_by_note kind (local first joined) = is_pending q.bus x (PendingWhy.Local first)
    down_by_note kind no_note = down_by_kind kind
    down_by_note kind (up_read first joined) = down_by_kind kind
    down_by_note kind (up_erase d) = down_by_kind kind

-- the parent's down list from its front
abbrev pub down_turn : DirValue → List Node → List DownValue → Judged
down_turn p ns [] = nothing_there
down_turn p ns (e ∷ rest) = down_by_note e.item (front_taken e.stamp rest p) ns e.words e.kind (dir_note e.item p)
