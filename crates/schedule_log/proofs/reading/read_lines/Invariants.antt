use Rattle.std.proofs.Common.{◌≡◌, length}
use Rattle.schedule_log.specs.Reader.{ReadUpTo}
use Rattle.schedule_log.proofs.reading.read_lines.Given as goal

-- the turns so far and those of the bytes to come are all
abbrev pub invariant-lines : goal.invariant-lines
invariant-lines l = record {
  read : ReadUpTo l.initial.seen l.first_lines l.first l.text l.initial.turns.items l.made l.left l.turns.items;
  seen : l.seen ≡ l.initial.seen;
}

abbrev pub decreases-lines : goal.decreases-lines
decreases-lines l = length l.left
