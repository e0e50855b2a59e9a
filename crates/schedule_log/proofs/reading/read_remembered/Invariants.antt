use Rattle.std.proofs.Common.{ℕ, ◌+◌, ◌*◌, ◌<◌, List, length, vec_len, vec_capacity}
use Rattle.schedule_log.specs.DdmTypes.declared.turns.Turn.{Turn}
use Rattle.schedule_log.specs.Reader.{ReadUpTo}
use Rattle.schedule_log.proofs.reading.read_remembered.Given as goal

-- what was read up to the text is read up to here
abbrev pub invariant-lines : goal.invariant-lines
invariant-lines l = record {
  few : 5 * l.made + length l.left < 5 * 1048576;
  room : 5 * vec_len l.turns + length l.left < 5 * vec_capacity l.turns;
  read : (lines first : ℕ) (whole : List ℕ) (before : List Turn) → ReadUpTo l.seen lines first whole before l.initial.made l.text l.initial.turns.items → ReadUpTo l.seen lines first whole before l.made l.left l.turns.items;
}

abbrev pub decreases-lines : goal.decreases-lines
decreases-lines l = length l.left
