use Rattle.std.proofs.Common.{◌≡◌, ◌-◌, ◌<◌, ◌≤◌, ◌&&◌, not, nat_lt, [], drop, length}
use Rattle.std.specs.List.{All, list_any}
use Rattle.replacement.specs.TreeModel.State.Leaf.{is_copy}
use Rattle.state_reading.specs.Reading.{times}
use Rattle.state_reading.specs.Parts.{read_copy}
use Rattle.replacement.proofs.parking.Parking.read.Given as goal

-- the copies so far, and those that are left
abbrev pub invariant-loop-number : goal.invariant-loop-number
invariant-loop-number g l = record {
  left : times (read_copy g.row.WORDS (λ x cs. nat_lt x l.items && not (list_any (is_copy x) cs))) l.count [] l.initial.at (drop l.initial.at l.words)
      ≡ times (read_copy g.row.WORDS (λ x cs. nat_lt x l.items && not (list_any (is_copy x) cs))) (l.count - l._number) l.self.list l.at (drop l.at l.words);
  many : length l.self.list ≡ l._number;
  room : l.count ≤ l.fn.self.capacity;
  below : All (λ c. c.item < l.items) l.self.list;
  inside : l.at ≤ length l.words;
  capacity : l.self.capacity ≡ l.fn.self.capacity;
  reserved : l.self.reserved ≡ 0;
}
