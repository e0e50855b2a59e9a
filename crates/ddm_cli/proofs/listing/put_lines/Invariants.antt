use Rattle.std.proofs.Common.{◌≡◌, ◌<◌, ◌≤◌, ◌++◌, length}
use Rattle.ddm_cli.specs.TextModel.Schedule.{turn_lines}
use Rattle.ddm_cli.proofs.listing.put_lines.Given as goal

abbrev pub invariant-lines : goal.invariant-lines
invariant-lines l = record {
  fewer : l.rest ≤ l.left;
  counted : length l.turns.left ≡ l.rest;
  lines : turn_lines l.initial.turns.left ≡ l.line ++ turn_lines l.turns.left;
  some : l.rest < l.left → 0 < length l.line;
}

abbrev pub decreases-lines : goal.decreases-lines
decreases-lines l = l.rest
