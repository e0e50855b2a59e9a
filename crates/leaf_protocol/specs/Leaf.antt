-- A leaf as its parts have it, and one turn of its hart.
-- Letters: v is a leaf, e its entries, x an item.
-- Proofs alone need it, but for `state_and_words`, of which a contract speaks.
use Rattle.std.specs.Prelude.{◌≡◌, ℕ, ◌+◌, ◌*◌, ◌<◌, ◌^◌, Bool, List, length, map, Option, Some, None, option_map, IfSome, if◌then◌else◌}
use Rattle.leaf_protocol.specs.DdmTypes.declared.answers.TxKind.{TxKind}
use Rattle.leaf_protocol.specs.DdmTypes.declared.answers.TxKind.TheVariants.{ReadTx}
use Rattle.leaf_protocol.specs.DdmTypes.declared.answers.TurnAnswer.{TurnAnswer}
use Rattle.leaf_protocol.specs.DdmTypes.declared.keys.Key.{Key}
use Rattle.leaf_protocol.specs.DdmTypes.CodeMap.{CodeWord}
use Rattle.leaf_protocol.specs.DdmTypes.ItemTable.{ItemTable, item_count}
use Rattle.leaf_protocol.specs.DdmTypes.declared.sizes.LeafState.{LeafState}
use Rattle.leaf_protocol.specs.FlatModel.declared.Ask.{Ask}
use Rattle.leaf_protocol.specs.FlatModel.declared.Ask.TheVariants.{NeedsExclusive, Conditional}
use Rattle.leaf_protocol.specs.FlatModel.Hart.{HartValue, action_of}
use Rattle.rv_hart.specs.declared.steps.Step.{Step}
use Rattle.rv_hart.specs.HartState.{HartState}
use Rattle.rv_hart.specs.Steps.{IsInside, action_by}
use Rattle.leaf_protocol.specs.TreeModel.State.Values.{RequestValue, CopyValue, LeafValue}
use Rattle.leaf_protocol.specs.TreeModel.State.Leaf.{LeafEntry, slot_has, waiting_item}
use Rattle.leaf_protocol.specs.TreeModel.Turns.HartTurn.{Deed, answer_of_deed, leaf_after_deed}
use Rattle.tx_queue.specs.QueueList.{QueueList, AllBelow}
use Rattle.leaf_protocol.specs.Entries.{EntriesValue}

abbrev pub request_value : TxKind × ℕ → RequestValue
request_value r = record { kind = r.0; item = r.1 }

abbrev pub copy_value : ℕ × List ℕ → CopyValue
copy_value c = record { item = c.0; words = c.1 }

abbrev pub leaf_of : ℕ → ℕ → ℕ → EntriesValue → Option (TxKind × ℕ) → QueueList (ℕ × List ℕ) → Option ℕ → HartState → LeafValue
leaf_of way_count width number e slot replies reservation h = record {
  number = number;
  sizes = record { sets = e.sets; way_count = way_count; buffer_room = e.room; reply_room = replies.capacity; width = width };
  hart = h.hart;
  done = h.done;
  ways = e.ways;
  buffer = e.buffer;
  slot = option_map request_value slot;
  replies = map copy_value replies.list;
  reservation = reservation;
}

-- the slot where this is asked for, and without a read of the item
abbrev pub slot_asked : Option TxKind → ℕ → Option (TxKind × ℕ) → Option (TxKind × ℕ)
slot_asked None x slot = slot
slot_asked (Some kind) x slot = Some (kind, x)

abbrev pub slot_read_struck : ℕ → Option (TxKind × ℕ) → Option (TxKind × ℕ)
slot_read_struck x slot = if slot_has ReadTx x (option_map request_value slot) then None else slot

abbrev pub copied_item : ℕ × List ℕ → ℕ
copied_item c = c.0

-- the slot, the replies and the reservation name items of the leaf
pub record AreParts (way_count width : ℕ) (e : EntriesValue) (slot : Option (TxKind × ℕ))
    (replies : QueueList (ℕ × List ℕ)) (reservation : Option ℕ) : Type 0 where
  pub some_ways : 0 < way_count
  pub words_fit : width < 2 ^ 32
  pub items : length e.ways ≡ replies.items
  pub numbered : replies.items < 2 ^ 32
  pub slot_inside : IfSome slot (λ r. r.1 < replies.items)
  pub replies_inside : AllBelow copied_item replies.items replies.list
  pub reserved_inside : IfSome reservation (λ x. x < replies.items)

-- the state and the words of an entry
abbrev pub state_and_words : LeafEntry → LeafState × List ℕ
state_and_words e = (e.state, e.words)

-- ---- a turn of the hart

-- the hart runs and no entry waits, the table of items fits the leaf, and one more instruction can be counted
pub record CanTry (width : ℕ) (table : ItemTable) (v : LeafValue) : Type 0 where
  pub words_fit : width < 2 ^ 32
  pub size : 4 * width ≡ table.size
  pub items : item_count table ≡ length v.ways
  pub count : v.done + 1 < 2 ^ 32
  pub running : v.hart.halt ≡ None
  pub alone : waiting_item v.ways v.buffer ≡ None

-- this step is what the hart's next instruction does, and its access, if it has one, is within an item of so many words
pub record IsStep (width : ℕ) (code : List CodeWord) (table : ItemTable) (h : HartValue) (step : Step) : Type 0 where
  pub action : action_by h step ≡ action_of code table h
  pub inside : IsInside (4 * width) step

-- the turn comes to this deed: its answer, and the leaf after it
pub record IsDone (now : Key) (v : LeafValue) (d : Deed) (answer : TurnAnswer) (after : LeafValue) : Type 0 where
  pub answers : answer ≡ answer_of_deed now v d
  pub leaf : after ≡ leaf_after_deed v d

-- what an instruction asks for that writes to item x, if it does so: a store, an AMO, or an SC
abbrev pub write_ask : Bool → ℕ → Ask
write_ask conditional x = if conditional then Conditional x else NeedsExclusive x
