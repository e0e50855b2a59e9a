-- What the table says, computed: two leaves on a bus, item 0 of one word, and turns of their bus one after another.
use Rattle.std.specs.Prelude.{◌≡◌, ℕ, false, List, [], ◌∷◌, Option, Some, None}
use Rattle.protocol_table.specs.DdmTypes.Keys.{stamp_zero}
use Rattle.protocol_table.specs.DdmTypes.declared.answers.TxKind.{TxKind}
use Rattle.protocol_table.specs.DdmTypes.declared.answers.TxKind.TheVariants.{ReadTx, DataTx, EraseTx, ExclusiveTx}
use Rattle.protocol_table.specs.DdmTypes.declared.answers.Place.{Place}
use Rattle.protocol_table.specs.DdmTypes.declared.answers.PendingWhy.{PendingWhy}
use Rattle.protocol_table.specs.DdmTypes.declared.answers.BusyCause.{BusyCause}
use Rattle.protocol_table.specs.DdmTypes.declared.answers.TurnAnswer.{TurnAnswer}
use Rattle.protocol_table.specs.DdmTypes.declared.answers.TurnAnswer.TheVariants.{Granted, Empty, Busy}
use Rattle.protocol_table.specs.DdmTypes.declared.sizes.Hold.{Hold}
use Rattle.protocol_table.specs.DdmTypes.declared.sizes.LeafState.{LeafState}
use Rattle.tree_model.specs.declared.BusTurn.{BusTurn}
use Rattle.tree_model.specs.State.Values.{RequestValue, WayValue, DirValue, no_note}
use Rattle.tree_model.specs.State.Values.{Node, leaf_node}
use Rattle.tree_model.specs.State.Blank.{no_hart}
use Rattle.tree_model.specs.Turns.Grant.{outcome_of}
use Rattle.protocol_table.specs.Table.{table_says}

-- a leaf with item 0 in this state, or without it, and with this request in its slot
abbrev pub leaf : ℕ → Option LeafState → Option TxKind → Node
leaf number state asks = leaf_node (record {
  number = number;
  sizes = record { sets = 1; way_count = 1; buffer_room = 1; reply_room = 1; width = 1 };
  hart = no_hart;
  done = 0;
  ways = way_of state ∷ [];
  buffer = [];
  slot = slot_of asks;
  replies = [];
  reservation = None;
}) where
  way_of : Option LeafState → Option WayValue
  way_of None = None
  way_of (Some t) = Some (record { way = 0; state = t; words = 5 ∷ [] })

  slot_of : Option TxKind → Option RequestValue
  slot_of None = None
  slot_of (Some kind) = Some (record { kind = kind; item = 0 })

-- the parent of bus 1 at this level, which holds item 0 so
abbrev pub parent : ℕ → Hold → DirValue
parent level hold = record {
  bus = 1;
  level = level;
  sizes = record { down_room = 2; request_room = 2; reply_room = 2; parking_room = 2; width = 1 };
  items = record { hold = hold; note = no_note; answering = false } ∷ [];
  down = [];
  requests = [];
  replies = [];
  parked = [];
  reserved = 0;
  count = 0;
  epoch = stamp_zero;
}

-- what the table answers to these turns, one after another
abbrev pub answers : List BusTurn → DirValue → List Node → List TurnAnswer
answers [] p ns = []
answers (t ∷ ts) p ns =
    let o = outcome_of p ns (table_says stamp_zero p ns t) in
    o.answer ∷ answers ts o.parent o.kids

-- this kind of item 0 went from here to there
abbrev pub goes : TxKind → Place → Place → TurnAnswer
goes kind source taker = Granted (record { bus = 1; kind = kind; item = 0; source = source; taker = taker })

-- Leaf 1 reads what leaf 0 holds Exclusive: it asks, leaf 0 answers, and nothing more is there.
pub record OneRead : Type 0 where
  pub answers_are :
      answers (BusTurn.Request 1 ∷ BusTurn.Reply 0 ∷ BusTurn.Reply 0 ∷ []) (parent 1 Hold.Exclusive)
      (leaf 0 (Some LeafState.Exclusive) None ∷ leaf 1 (Some LeafState.Reading) (Some ReadTx) ∷ [])
      ≡ goes ReadTx (Place.Child 1) (Place.Child 0) ∷ goes DataTx (Place.Child 0) (Place.Child 1) ∷ Empty ∷ []

-- Leaf 1 writes what both hold Shared under a parent that holds it Exclusive: it erases, its slot is empty then, and
-- exclusive comes down.
pub record OneWrite : Type 0 where
  pub answers_are :
      answers (BusTurn.Request 1 ∷ BusTurn.Request 1 ∷ BusTurn.Down ∷ []) (parent 1 Hold.Exclusive)
      (leaf 0 (Some LeafState.Shared) None ∷ leaf 1 (Some LeafState.Waiting) (Some EraseTx) ∷ [])
      ≡ goes EraseTx (Place.Child 1) Place.All ∷ Empty ∷ goes ExclusiveTx Place.Parent (Place.Child 1) ∷ []

-- Both read what their parent doesn't hold: the first read goes up, the second joins it.
pub record JoinedRead : Type 0 where
  pub answers_are :
      answers (BusTurn.Request 0 ∷ BusTurn.Request 1 ∷ []) (parent 1 Hold.Invalid)
      (leaf 0 (Some LeafState.Reading) (Some ReadTx) ∷ leaf 1 (Some LeafState.Reading) (Some ReadTx) ∷ [])
      ≡ goes ReadTx (Place.Child 0) Place.Parent ∷ goes ReadTx (Place.Child 1) Place.Joined ∷ []

-- Leaf 0 writes while leaf 1 waits for its data: the item is pending.
pub record PendingErase : Type 0 where
  pub answers_are :
      answers (BusTurn.Request 1 ∷ BusTurn.Request 0 ∷ []) (parent 1 Hold.Shared)
      (leaf 0 (Some LeafState.Waiting) (Some EraseTx) ∷ leaf 1 (Some LeafState.Reading) (Some ReadTx) ∷ [])
      ≡ goes ReadTx (Place.Child 1) (Place.Child 0)
      ∷ Busy (BusyCause.ItemPending 1 0 (PendingWhy.Local 1)) ∷ []
