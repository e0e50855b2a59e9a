use Rattle.std.proofs.Common.{◌≡◌, ◌-◌, ◌≤◌, [], drop, length, map, nat_lt}
use Rattle.state_reading.specs.Reading.{times}
use Rattle.state_reading.specs.Parts.{read_copy}
use Rattle.tx_queue.specs.Read.{copy_value}
use Rattle.tx_queue.proofs.reading.«Queue+tuple2+ItemId+Words+WORDS».read_copies.Given as goal

-- the copies so far, and those that are left
abbrev pub invariant-loop-number : goal.invariant-loop-number
invariant-loop-number g l = record {
  left : times (read_copy g.row.WORDS (λ x cs. nat_lt x l.fn.self.items)) l.count [] l.initial.at (drop l.initial.at l.words)
      ≡ times (read_copy g.row.WORDS (λ x cs. nat_lt x l.fn.self.items)) (l.count - l._number) (map copy_value l.self.list) l.at (drop l.at l.words);
  many : length l.self.list ≡ l._number;
  room : l.count ≤ l.fn.self.capacity;
  inside : l.at ≤ length l.words;
  capacity : l.self.capacity ≡ l.fn.self.capacity;
  items : l.self.items ≡ l.fn.self.items;
}
