use Rattle.std.proofs.Common.{◌≡◌, ◌+◌, ◌-◌, ◌≤◌, length, drop}
use Rattle.joining.specs.TextModel.Schedule.{pieces_at}
use Rattle.join_model.specs.Table.{lines_from}
use Rattle.joining.proofs.ReadLines.{before}
use Rattle.joining.proofs.reading.lines_of.Given as goal

abbrev pub invariant-reading : goal.invariant-reading
invariant-reading l = record {
  read : lines_from 2 l.heading.lines l.heading.runs (pieces_at 10 l.text) ≡ before l.lines.items (lines_from (2 + length l.lines.items) (l.heading.lines - length l.lines.items) l.left (pieces_at 10 (drop l.at l.text)));
  inside : l.at ≤ length l.text;
  few : length l.lines.items ≤ l.at;
}

abbrev pub decreases-reading : goal.decreases-reading
decreases-reading l = length l.text - l.at
