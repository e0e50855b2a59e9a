use Rattle.std.proofs.Common.{refl}
use Rattle.elf_load.specs.Computing.{images_compute}
use Rattle.elf_load.proofs.examples.segment_edges.Goals as goal

pub returns : goal.returns
unfolding images_compute
returns c = record {
  whole = refl;
  last_bytes = refl;
  past_the_last = refl;
  no_memory = refl;
  touching = refl;
  one_common_byte = refl;
  one_common_byte_below = refl;
  sharing = refl;
  shared_item = refl;
  fifty_one_bytes = refl;
  table_one_byte_past = refl;
  compressed = refl;
}
