-- Every made image is accepted, and read as its two segments.
use Rattle.std.specs.Prelude.{◌≡◌, ℕ, ◌≤◌, Ok}
use Rattle.made_image.specs.DdmTypes.ItemTable.{IsItemSize}
use Rattle.elf_load.specs.ElfFile.{image_of}
use Rattle.elf_load.specs.ImageRule.{image_value}
use Rattle.made_image.specs.MadeImage.{made_image, made_program, made_segments, program_bytes}

abbrev pub MadeImagesLoad : Type 0
MadeImagesLoad =
    (item_bytes seed rounds : ℕ) → IsItemSize item_bytes → rounds ≤ 50000 →
    image_of item_bytes (made_image seed rounds)
    ≡ Ok (image_value 0x10000 (made_segments (program_bytes (made_program seed rounds))))
