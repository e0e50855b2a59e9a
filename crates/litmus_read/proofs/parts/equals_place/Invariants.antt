use Rattle.std.proofs.Common.{◌≡◌, ◌+◌, drop}
use Rattle.litmus_model.specs.Init.{equals_place}
use Rattle.litmus_read.proofs.parts.equals_place.Given as goal

abbrev pub invariant-loop-place : goal.invariant-loop-place
invariant-loop-place l = equals_place l.parts ≡ l.place + equals_place (drop l.place l.parts)
