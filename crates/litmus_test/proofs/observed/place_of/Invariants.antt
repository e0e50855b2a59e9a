use Rattle.std.proofs.Common.{◌≡◌, ◌+◌, drop}
use Rattle.std.specs.List.{position_or_len}
use Rattle.litmus_test.specs.Places.{is_at}
use Rattle.litmus_test.proofs.observed.place_of.Given as goal

abbrev pub invariant-loop-place : goal.invariant-loop-place
invariant-loop-place l = position_or_len (is_at l.target) l.targets ≡ l.place + position_or_len (is_at l.target) (drop l.place l.targets)
