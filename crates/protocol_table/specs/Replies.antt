-- The rows of a child's reply, which carries the words of an item.
-- Letters: s is the situation.
use Rattle.std.specs.Prelude.{false}
use Rattle.protocol_table.specs.DdmTypes.declared.answers.TxKind.TheVariants.{DataTx}
use Rattle.protocol_table.specs.DdmTypes.declared.answers.Place.{Place}
use Rattle.protocol_table.specs.DdmTypes.declared.sizes.Hold.{Hold}
use Rattle.tree_model.specs.State.Values.{no_note}
use Rattle.tree_model.specs.State.Directory.{with_note, with_hold, with_answering, is_local, is_answering, pushed_reply}
use Rattle.tree_model.specs.State.Child.{child_reply_taken}
use Rattle.tree_model.specs.Turns.Children.{only, replied_by}
use Rattle.protocol_table.specs.Situation.{is_reply}
use Rattle.protocol_table.specs.Row.{Row, grants, note, at_readers, own_replies, readers, each, stamp}

-- children of this bus wait for it: every reader is told data
abbrev pub reply_for_readers : Row
reply_for_readers = grants (record {
  asked = is_reply;
  applies = λ s. is_local (note s);
  needs = at_readers;
  kind = DataTx;
  to = readers;
  children = λ s. each (replied_by s.child (note s) s.item s.words (stamp s)) s;
  parent = λ s. with_note s.item no_note s.turned;
})

-- the parent is answering: the data goes up, and the parent holds the item Shared
abbrev pub reply_sent_up : Row
reply_sent_up = grants (record {
  asked = is_reply;
  applies = λ s. is_answering s.item s.parent;
  needs = own_replies;
  kind = DataTx;
  to = λ s. Place.Parent;
  children = λ s. each (only s.child child_reply_taken) s;
  parent = λ s. pushed_reply s.item s.words (with_answering s.item false (with_hold s.item Hold.Shared s.turned));
})
