use Rattle.std.proofs.Common.{◌≡◌, ◌++◌, length}
use Rattle.report.proofs.parts.joined.Given as goal

abbrev pub invariant-parts : goal.invariant-parts
invariant-parts g l = g.P.Parts.left l.initial.parts ≡ l.text.items ++ g.P.Parts.left l.parts

abbrev pub decreases-parts : goal.decreases-parts
decreases-parts g l = length (g.P.Parts.left l.parts)
