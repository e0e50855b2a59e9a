use Rattle.std.proofs.Common.{◌≡◌, ◌+◌, drop}
use Rattle.std.specs.Prelude.{bytes_eq}
use Rattle.std.specs.List.{position_or_len}
use Rattle.litmus_image.proofs.layout.place_of.Given as goal

abbrev pub invariant-loop-place : goal.invariant-loop-place
invariant-loop-place l = position_or_len (bytes_eq l.name) l.names ≡ l.place + position_or_len (bytes_eq l.name) (drop l.place l.names)
