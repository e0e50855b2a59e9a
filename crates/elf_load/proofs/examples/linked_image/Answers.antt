use Rattle.std.proofs.Common.{refl}
use Rattle.elf_load.specs.Computing.{images_compute}
use Rattle.elf_load.proofs.examples.linked_image.Goals as goal

pub returns : goal.returns
unfolding images_compute
returns c = record {
  image = refl;
  items = refl;
  magic_in_memory = refl;
}
