use Rattle.std.proofs.Common.{◌≡◌, take}
use Rattle.machine_tests.proofs.with_report.listed.Given as goal

abbrev pub invariant-loop-place : goal.invariant-loop-place
invariant-loop-place l = l.list.items ≡ take l.place l.ops.items
