use Rattle.std.proofs.Common.{◌≡◌, ◌≤◌, ◌-◌, ◌++◌, length, take}
use Rattle.report.proofs.parts.put_piece.Given as goal

abbrev pub invariant-parts : goal.invariant-parts
invariant-parts g l = record {
  within : l.filled ≤ length l.into;
  given : g.P.Parts.left l.initial.parts ≡ take l.filled l.into ++ g.P.Parts.left l.parts;
}

abbrev pub decreases-parts : goal.decreases-parts
decreases-parts g l = length l.into - l.filled
