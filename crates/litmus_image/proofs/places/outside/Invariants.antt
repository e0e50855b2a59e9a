use Rattle.std.proofs.Common.{◌≡◌, drop}
use Rattle.litmus_model.specs.Image.{outside}
use Rattle.litmus_image.proofs.places.outside.Given as goal

abbrev pub invariant-loop-place : goal.invariant-loop-place
invariant-loop-place l = outside l.leaves l.places ≡ outside l.leaves (drop l.place-index l.places)
