use Rattle.std.proofs.Common.{refl}
use Rattle.elf_load.specs.Computing.{images_compute}
use Rattle.elf_load.proofs.examples.cut_images.Goals as goal

pub returns : goal.returns
unfolding images_compute
returns c = record {
  file_length = refl;
  refusals = refl;
}
