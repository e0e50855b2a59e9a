use Rattle.std.proofs.Common.{◌≡◌, drop}
use Rattle.report.specs.LineParts.{are_silent}
use Rattle.report.proofs.harts.are_silent.Given as goal

abbrev pub invariant-loop-place : goal.invariant-loop-place
invariant-loop-place l = are_silent (drop l.place l.ops.items) ≡ are_silent l.ops.items
