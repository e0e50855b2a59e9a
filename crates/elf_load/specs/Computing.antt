-- One name that opens every definition that an image computes with.
use Rattle.tree_model.specs.Computing.{tree_computes}
use Rattle.elf_load.specs.ElfFile.{headers_of, kind_refusal, flags_refusal, table_refusal, file_refusal}
use Rattle.elf_load.specs.ElfFile.{header_refusal, headers_refusal, loaded_headers, segments_of, image_in, code_bytes}
use Rattle.elf_load.specs.ElfFile.{items_met, code_refusal, items_refusal, sizes_refusal, entry_refusal, judged_entry}
use Rattle.elf_load.specs.ElfFile.{image_of}
use Rattle.elf_load.specs.Written.{halves, words, file_header, program_header, program_headers, segment_bytes, written_image}

-- Where a proof says `unfolding images_compute`, images compute.
unfoldable pub images_compute : Unit {0}
unfolding tree_computes headers_of kind_refusal flags_refusal table_refusal file_refusal header_refusal
    headers_refusal loaded_headers segments_of image_in code_bytes items_met code_refusal items_refusal sizes_refusal
    entry_refusal judged_entry image_of halves words file_header program_header program_headers segment_bytes
    written_image
images_compute = tt
