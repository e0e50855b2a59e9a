use Rattle.std.proofs.Common.{◌≡◌, ◌-◌, ◌≤◌, [], drop, length, map}
use Rattle.state_reading.specs.Reading.{times}
use Rattle.state_reading.specs.Parts.{read_down}
use Rattle.tx_queue.proofs.reading.«Queue+DownEntry+WORDS».read_entries.Given as goal

-- the entries so far, and those that are left
abbrev pub invariant-loop-number : goal.invariant-loop-number
invariant-loop-number g l = record {
  left : times (read_down l.fn.self.items l.level g.row.WORDS) l.count [] l.initial.at (drop l.initial.at l.words)
      ≡ times (read_down l.fn.self.items l.level g.row.WORDS) (l.count - l._number) l.self.list l.at (drop l.at l.words);
  many : length l.self.list ≡ l._number;
  room : l.count ≤ l.fn.self.capacity;
  inside : l.at ≤ length l.words;
  capacity : l.self.capacity ≡ l.fn.self.capacity;
  items : l.self.items ≡ l.fn.self.items;
}
