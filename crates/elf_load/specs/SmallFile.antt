-- A small program as a file, and files that differ from it in some bytes.
use Rattle.std.specs.Prelude.{ℕ, ◌+◌, List, [], ◌∷◌, ◌++◌, take, drop, length, Result}
use Rattle.tree_model.specs.Start.Sources.{SegmentValue, ImageValue}
use Rattle.elf_load.specs.declared.refusal.ImageRefusal.{ImageRefusal}
use Rattle.elf_load.specs.ElfFile.{image_of}
use Rattle.elf_load.specs.Written.{written_image}

-- seven instructions: store 7 at 0x20000, load it back, exit with it
abbrev pub code_segment : SegmentValue
code_segment = record {
  header = 0;
  vaddr = 0x10000;
  flags = 5;
  bytes =
      0xb7 ∷ 0x02 ∷ 0x02 ∷ 0x00 ∷ 0x13 ∷ 0x03 ∷ 0x70 ∷ 0x00 ∷ 0x23 ∷ 0xa0 ∷ 0x62 ∷ 0x00 ∷ 0x83 ∷ 0xa3 ∷ 0x02
      ∷ 0x00 ∷ 0x93 ∷ 0x08 ∷ 0xd0 ∷ 0x05 ∷ 0x13 ∷ 0x85 ∷ 0x03 ∷ 0x00 ∷ 0x73 ∷ 0x00 ∷ 0x00 ∷ 0x00 ∷ [];
  memsz = 28;
}

-- a segment of no file bytes, with these flags
abbrev pub blank_segment : ℕ → ℕ → ℕ → ℕ → SegmentValue
blank_segment header vaddr memsz flags = record { header = header; vaddr = vaddr; flags = flags; bytes = []; memsz = memsz }

abbrev pub data_segment : SegmentValue
data_segment = blank_segment 1 0x20000 16 6

-- the file, which has 144 bytes
abbrev pub small_file : List ℕ
small_file = written_image 0x10000 (code_segment ∷ data_segment ∷ [])

-- a file with these bytes from a place on
abbrev pub changed_at : ℕ → List ℕ → List ℕ → List ℕ
changed_at place bytes file = take place file ++ bytes ++ drop (place + length bytes) file

-- the image of a file, or the first refusal, for items of 16 bytes
abbrev pub read_small : List ℕ → Result ImageValue ImageRefusal
read_small file = image_of 16 file

-- the same of the code and the segments behind it
abbrev pub read_with : List SegmentValue → Result ImageValue ImageRefusal
read_with others = read_small (written_image 0x10000 (code_segment ∷ others))
