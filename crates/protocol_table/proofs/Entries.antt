-- The first entry of the parent's down list is judged as the table says.
-- Letters: p is the parent, q is it after the entry was taken, ns are its children, x is the item.
use Rattle.std.proofs.Common.{◌≡◌, ℕ, Bool, true, false, nat_eq, List, [], ◌∷◌, Option, Some, None, refl, ap, ◌∙◌}
use Rattle.protocol_table.specs.DdmTypes.declared.answers.TxKind.{TxKind}
use Rattle.protocol_table.specs.DdmTypes.declared.answers.TxKind.TheVariants.{ReadTx, DataTx, EraseTx, ExclusiveTx}
use Rattle.protocol_table.specs.DdmTypes.declared.answers.TxKind.TheVariants.{InjectTx, OutTx}
use Rattle.protocol_table.specs.DdmTypes.declared.keys.Stamp.{Stamp}
use Rattle.tree_model.specs.State.Lists.{find_from, first_given}
use Rattle.tree_model.specs.State.Values.{DownValue, Note, no_note, local, up_read, up_erase, DirValue, Node}
use Rattle.tree_model.specs.State.Leaf.{words_of_item}
use Rattle.tree_model.specs.State.Directory.{dir_note, is_local, is_up_read, is_parked, parked_words, front_taken}
use Rattle.tree_model.specs.State.Child.{child_full_for, reader_has_place}
use Rattle.tree_model.specs.Turns.Grant.{own_replies_full}
use Rattle.tree_model.specs.Turns.Children.{child_at, holds_item, reader_full, full_to_lose}
use Rattle.tree_model.specs.Turns.Down.{exclusive_to, erase_of_children, read_by_child, read_by_parked, down_read}
use Rattle.tree_model.specs.Turns.Down.{data_to_readers, inject_to_reader, inject_to_readers, inject_to_child}
use Rattle.tree_model.specs.Turns.Down.{inject_parked, inject_taker, inject_to_read, inject_to_taker, down_data}
use Rattle.tree_model.specs.Turns.Down.{down_erase, down_exclusive, down_inject, down_by_note, down_turn}
use Rattle.protocol_table.specs.Situation.{Situation, of_entry, of_down}
use Rattle.protocol_table.specs.Row.{says}
use Rattle.protocol_table.specs.Entries.{read_answered_by_child, read_answered_by_parking}
use Rattle.protocol_table.specs.Table.{table, said_of}
use Rattle.protocol_table.proofs.Lists.{lists}

module _ (above : Stamp) (p : DirValue) (ns : List Node) (x : ℕ) (words : List ℕ) (stamp : Stamp)
    (rest : List DownValue) where
  abbrev q : DirValue
  q = front_taken stamp rest p

  abbrev comes : TxKind → Situation
  comes kind = of_entry above p ns kind x words stamp rest

  read-said : (k : Option ℕ) (copies : List (List ℕ))
      → find_from (holds_item x) 0 ns ≡ k → words_of_item x p.parked ≡ copies
      → down_read x q ns (find_from (holds_item x) 0 ns) (parked_words x q)
      ≡ says (read_answered_by_child ∷ read_answered_by_parking ∷ []) (comes ReadTx)
  unfolding read_by_child read_by_parked
  read-said (Some k) copies found parked =
      rw found (lists (child_full_for ReadTx x (child_at k ns)) (read_by_child x q ns k))
  read-said None [] found parked = rw (found, parked) refl
  read-said None (copy ∷ more) found parked =
      rw (found, parked) (lists (own_replies_full q) (read_by_parked x q ns copy))

  -- ---- an inject

  reader-said : (first joined : ℕ) (alone place : Bool) → dir_note x p ≡ up_read first joined → nat_eq joined 0 ≡ alone
      → reader_has_place x (child_at first ns) ≡ place
      → inject_to_read x q ns words first joined ≡ says table (comes InjectTx)
  unfolding inject_to_reader inject_to_readers
  reader-said first joined true true e alone place =
      rw (e, alone, place) (lists (child_full_for InjectTx x (child_at first ns)) (inject_to_reader x q ns words first))
  reader-said first joined true false e alone place = rw (e, alone, place) refl
  reader-said first joined false place e alone has =
      rw (e, alone) (lists (first_given (reader_full (up_read first joined) x) 0 ns)
      (inject_to_readers x q ns words first joined))

  taker-said : (k : Option ℕ) (parked kept : Bool) → is_local (dir_note x p) ≡ false → is_up_read (dir_note x p) ≡ false
      → inject_taker x q ns words ≡ k → is_parked x p ≡ parked → nat_eq p.reserved 0 ≡ kept
      → inject_to_taker x q ns words (inject_taker x q ns words) ≡ says table (comes InjectTx)
  unfolding inject_to_child inject_parked
  taker-said (Some k) parked kept free unread found there places = rw (free, unread, found) refl
  taker-said None true kept free unread found there places = rw (free, unread, found, there) refl
  taker-said None false true free unread found there places = rw (free, unread, found, there, places) refl
  taker-said None false false free unread found there places = rw (free, unread, found, there, places) refl

  idle-said : is_local (dir_note x p) ≡ false → is_up_read (dir_note x p) ≡ false
      → inject_to_taker x q ns words (inject_taker x q ns words) ≡ says table (comes InjectTx)
  idle-said free unread =
      taker-said (inject_taker x q ns words) (is_parked x p) (nat_eq p.reserved 0) free unread refl refl refl

  -- ---- each kind, by the note

  reads-said : is_local (dir_note x p) ≡ false
      → down_read x q ns (find_from (holds_item x) 0 ns) (parked_words x q) ≡ says table (comes ReadTx)
  reads-said free = rw free (read-said (find_from (holds_item x) 0 ns) (words_of_item x p.parked) refl refl)

  erase-said : is_local (dir_note x p) ≡ false → down_erase x q ns ≡ says table (comes EraseTx)
  unfolding erase_of_children
  erase-said free = rw free (lists (first_given (full_to_lose x) 0 ns) (erase_of_children x q ns))

  note-said : (note : Note) (kind : TxKind) → dir_note x p ≡ note
      → down_by_note x q ns words kind note ≡ says table (comes kind)
  unfolding exclusive_to data_to_readers
  note-said (local first joined) kind e = rw e refl
  note-said no_note ReadTx e = reads-said (ap is_local e)
  note-said no_note DataTx e = ap (down_data x q ns words) e ∙ rw e refl
  note-said no_note EraseTx e = erase-said (ap is_local e)
  note-said no_note ExclusiveTx e = ap (down_exclusive x q ns) e ∙ rw e refl
  note-said no_note InjectTx e = ap (down_inject x q ns words) e ∙ idle-said (ap is_local e) (ap is_up_read e)
  note-said no_note OutTx e = rw e refl
  note-said (up_read first joined) ReadTx e = reads-said (ap is_local e)
  note-said (up_read first joined) DataTx e =
      ap (down_data x q ns words) e
      ∙ rw e (lists (first_given (reader_full (up_read first joined) x) 0 ns)
      (data_to_readers x q ns words first joined))
  note-said (up_read first joined) EraseTx e = erase-said (ap is_local e)
  note-said (up_read first joined) ExclusiveTx e = ap (down_exclusive x q ns) e ∙ rw e refl
  note-said (up_read first joined) InjectTx e =
      ap (down_inject x q ns words) e
      ∙ reader-said first joined (nat_eq joined 0) (reader_has_place x (child_at first ns)) e refl refl
  note-said (up_read first joined) OutTx e = rw e refl
  note-said (up_erase d) ReadTx e = reads-said (ap is_local e)
  note-said (up_erase d) DataTx e = ap (down_data x q ns words) e ∙ rw e refl
  note-said (up_erase d) EraseTx e = erase-said (ap is_local e)
  note-said (up_erase d) ExclusiveTx e =
      ap (down_exclusive x q ns) e
      ∙ rw e (lists (child_full_for ExclusiveTx x (child_at d ns)) (exclusive_to x q ns d))
  note-said (up_erase d) InjectTx e = ap (down_inject x q ns words) e ∙ idle-said (ap is_local e) (ap is_up_read e)
  note-said (up_erase d) OutTx e = rw e refl

module _ (above : Stamp) (p : DirValue) (ns : List Node) where
  pub entry-said : (down : List DownValue) → down_turn p ns down ≡ said_of (of_down above p ns down)
  entry-said [] = refl
  entry-said (e ∷ rest) = note-said above p ns e.item e.words e.stamp rest (dir_note e.item p) e.kind refl
