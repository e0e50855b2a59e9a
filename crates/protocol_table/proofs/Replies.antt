-- A child's reply is judged as the table says.
-- Letters: p is the parent, ns are its children, c is a child number, x an item.
use Rattle.std.proofs.Common.{◌≡◌, ℕ, Bool, true, false, List, [], ◌∷◌, Option, Some, None, refl, ap, ◌∙◌}
use Rattle.protocol_table.specs.DdmTypes.declared.keys.Stamp.{Stamp}
use Rattle.tree_model.specs.State.Lists.{first_given}
use Rattle.tree_model.specs.State.Values.{CopyValue, Note, no_note, local, up_read, up_erase, DirValue, Node}
use Rattle.tree_model.specs.State.Directory.{dir_note, is_answering, is_local}
use Rattle.tree_model.specs.Turns.Grant.{nothing_there, own_replies_full}
use Rattle.tree_model.specs.Turns.Children.{reader_full}
use Rattle.tree_model.specs.Turns.Reply.{reply_to_readers, reply_to_parent, reply_answering, reply_by_note}
use Rattle.tree_model.specs.Turns.Bus.{reply_turn}
use Rattle.protocol_table.specs.Situation.{Situation, reply, of_child, of_reply}
use Rattle.protocol_table.specs.Row.{says}
use Rattle.protocol_table.specs.Replies.{reply_sent_up}
use Rattle.protocol_table.specs.Table.{table, said_of}
use Rattle.protocol_table.proofs.Lists.{lists, taken, skipped}

module _ (above : Stamp) (p : DirValue) (ns : List Node) (c x : ℕ) (words : List ℕ) where
  abbrev replies : Situation
  replies = of_child above p ns reply c x words

  answer-said : (answering : Bool) → is_answering x p ≡ answering
      → reply_answering c x words p ns answering ≡ says (reply_sent_up ∷ []) replies
  unfolding reply_to_parent
  answer-said true e =
      lists (own_replies_full p) (reply_to_parent c x words p ns) ∙ taken (is_answering x p) _ nothing_there e
  answer-said false e = skipped (is_answering x p) _ nothing_there e

  note-said : (note : Note) → dir_note x p ≡ note → reply_by_note c x words p ns note ≡ says table replies
  unfolding reply_to_readers
  note-said no_note e = rw (ap is_local e) (answer-said (is_answering x p) refl)
  note-said (local first joined) e =
      rw e (lists (first_given (reader_full (local first joined) x) 0 ns)
      (reply_to_readers c x words p ns first joined))
  note-said (up_read first joined) e = rw (ap is_local e) (answer-said (is_answering x p) refl)
  note-said (up_erase d) e = rw (ap is_local e) (answer-said (is_answering x p) refl)

module _ (above : Stamp) (p : DirValue) (ns : List Node) (c : ℕ) where
  pub reply-said : (o : Option CopyValue) → reply_turn above p ns c o ≡ said_of (of_reply above p ns c o)
  reply-said None = refl
  reply-said (Some r) = note-said above p ns c r.item r.words (dir_note r.item p) refl
