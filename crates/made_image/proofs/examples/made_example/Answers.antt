use Rattle.std.proofs.Common.{refl}
use Rattle.made_image.specs.Computing.{made_images_compute}
use Rattle.made_image.proofs.examples.made_example.Goals as goal

pub returns : goal.returns
unfolding made_images_compute
returns c = record {
  generated = refl;
  kinds = refl;
  offsets = refl;
  program = refl;
  file = refl;
  accepted = refl;
  store = refl;
  swap = refl;
}
