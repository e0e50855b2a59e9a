use Rattle.std.specs.Prelude.{◌≡◌, ◌-◌, ◌≤◌, [], drop, length, map, nat_lt}
use Rattle.tx_queue.specs.QueueList.{AllBelow}
use Rattle.leaf_protocol.specs.StateReading.Reading.{times}
use Rattle.leaf_protocol.specs.StateReading.Parts.{read_copy}
use Rattle.leaf_protocol.specs.Leaf.{copied_item, copy_value}
use Rattle.leaf_protocol.proofs.read_back.read_replies.Given as goal

abbrev pub invariant-copies : goal.invariant-copies
invariant-copies g l = record {
  left : times (read_copy g.row.WORDS (λ x cs. nat_lt x l.items)) l.count [] l.fn.at (drop l.fn.at l.words) ≡ times (read_copy g.row.WORDS (λ x cs. nat_lt x l.items)) (l.count - l.done) (map copy_value l.replies.list) l.at (drop l.at l.words);
  below : AllBelow copied_item l.items l.replies.list;
  count : length l.replies.list ≤ l.done;
  capacity : l.replies.capacity ≡ l.initial.replies.capacity;
  items : l.replies.items ≡ l.items;
  inside : l.at ≤ length l.words;
}
