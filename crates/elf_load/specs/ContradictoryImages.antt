-- Files whose fields contradict each other or the limits.
use Rattle.std.specs.Prelude.{◌≡◌, [], ◌∷◌, Err}
use Rattle.elf_load.specs.declared.refusal.ImageRefusal.TheVariants.{WrongClass, TooManyHeaders, HeaderOutside}
use Rattle.elf_load.specs.declared.refusal.ImageRefusal.TheVariants.{Dynamic, SegmentsOverlap, NoSegments, BadEntry}
use Rattle.elf_load.specs.SmallFile.{small_file, changed_at, read_small}

-- places: 4 class, 18 machine, 24 entry, 28 table, 42 header size, 44 header count; the headers at 52 and 84
pub record ContradictoryImages : Type 0 where
  pub header_count : read_small (changed_at 44 (65 ∷ 0 ∷ []) small_file) ≡ Err (TooManyHeaders 65)
  pub header_size : read_small (changed_at 42 (31 ∷ 0 ∷ []) small_file) ≡ Err (HeaderOutside 0)
  pub table : read_small (changed_at 28 (0xff ∷ 0xff ∷ 0xff ∷ 0xff ∷ []) small_file) ≡ Err (HeaderOutside 0)
  pub class_first : read_small (changed_at 4 (2 ∷ []) (changed_at 18 (62 ∷ 0 ∷ []) small_file)) ≡ Err WrongClass
  pub one_common_byte : read_small (changed_at 92 (0x1b ∷ 0x00 ∷ 0x01 ∷ 0x00 ∷ []) small_file) ≡ Err (SegmentsOverlap 0 1)
  pub dynamic_header : read_small (changed_at 84 (2 ∷ []) small_file) ≡ Err (Dynamic 1)
  pub entry_between_words : read_small (changed_at 24 (0x02 ∷ 0x00 ∷ 0x01 ∷ 0x00 ∷ []) small_file) ≡ Err (BadEntry 65538)
  pub no_segment : read_small (changed_at 52 (6 ∷ []) (changed_at 84 (6 ∷ []) small_file)) ≡ Err NoSegments
