use Rattle.std.proofs.Common.{refl}
use Rattle.elf_load.specs.Computing.{images_compute}
use Rattle.elf_load.proofs.examples.contradictory_images.Goals as goal

pub returns : goal.returns
unfolding images_compute
returns c = record {
  header_count = refl;
  header_size = refl;
  table = refl;
  class_first = refl;
  one_common_byte = refl;
  dynamic_header = refl;
  entry_between_words = refl;
  no_segment = refl;
}
