use Rattle.std.proofs.Common.{◌≡◌, ◌-◌, ◌≤◌, drop, length, replicate, None}
use Rattle.directory.specs.StateReading.Reading.{times}
use Rattle.directory.specs.StateReading.Parts.{at_rest, read_record}
use Rattle.directory.proofs.table.ItemTable.read.Given as goal

-- the records so far, and those that are left
abbrev pub invariant-loop-number : goal.invariant-loop-number
invariant-loop-number l = record {
  left : times (read_record (length l.fn.self) l.children l.top) l.count (record { last = None; items = replicate (length l.fn.self) (at_rest l.top) }) l.initial.at (drop l.initial.at l.words)
      ≡ times (read_record (length l.fn.self) l.children l.top) (l.count - l._number) (record { last = l.last; items = l.self }) l.at (drop l.at l.words);
  items : length l.self ≡ length l.fn.self;
  inside : l.at ≤ length l.words;
}
