-- The image of the seed 42 with two rounds, and a word for each kind of round.
use Rattle.std.specs.Prelude.{◌≡◌, ℕ, List, [], ◌∷◌, ◌++◌, map, Ok}
use Rattle.made_image.specs.RvDecode.Encode.{encode_of}
use Rattle.text_model.specs.Seeded.{seeded_generator, words_of}
use Rattle.elf_load.specs.ElfFile.{image_of}
use Rattle.elf_load.specs.ImageRule.{image_value}
use Rattle.elf_load.specs.Written.{words, file_header}
use Rattle.made_image.specs.MadeImage.{offset_of, kind_of, round_of, made_program, made_segments, program_bytes, made_image}

-- as an assembler makes them
abbrev pub example_words : List ℕ
example_words =
    0x002002b7 ∷
    0x0dc28413 ∷ 0x0074232f ∷
    0x0242a303 ∷ 0x006383b3 ∷
    0x05d00893 ∷ 0x00038513 ∷ 0x00000073 ∷ []

-- type, offset, vaddr, paddr, filesz, memsz, flags, align of the code and of the memory, then the code
abbrev pub example_file : List ℕ
example_file =
    file_header 0x10000 2 ++
    words (1 ∷ 116 ∷ 0x10000 ∷ 0x10000 ∷ 32 ∷ 32 ∷ 5 ∷ 1 ∷ []) ++
    words (1 ∷ 148 ∷ 0x200000 ∷ 0x200000 ∷ 0 ∷ 256 ∷ 6 ∷ 1 ∷ []) ++
    words example_words

-- the words of its two rounds
abbrev pub round_words : List ℕ
round_words = words_of (seeded_generator 42) 2

pub record MadeExample : Type 0 where
  -- an addition at the offset 220, then a load at 36
  pub generated : round_words ≡ 0xa15c02b7 ∷ 0x7b47f409 ∷ []
  pub kinds : map kind_of round_words ≡ 2 ∷ 0 ∷ []
  pub offsets : map offset_of round_words ≡ 220 ∷ 36 ∷ []
  pub program : map encode_of (made_program 42 2) ≡ example_words
  pub file : made_image 42 2 ≡ example_file
  pub accepted : image_of 16 example_file ≡ Ok (image_value 0x10000 (made_segments (program_bytes (made_program 42 2))))
  -- stores and swaps, at the offset 220
  pub store : map encode_of (round_of 0x77) ≡ 0x0c72ae23 ∷ 0x00138393 ∷ []
  pub swap : map encode_of (round_of 0xf7) ≡ 0x0dc28413 ∷ 0x086423af ∷ []
