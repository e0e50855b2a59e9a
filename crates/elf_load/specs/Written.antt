-- The one form in which an image is written: the ELF header, a program header for each segment, the bytes of the segments.
use Rattle.std.specs.Prelude.{ℕ, ◌+◌, ◌*◌, List, [], ◌∷◌, ◌++◌, length}
use Rattle.std.specs.List.{flat_map}
use Rattle.byteorder.specs.Endian.{little_bytes}
use Rattle.tree_model.specs.Start.Sources.{SegmentValue}

-- half words, and words, each with its lowest byte first
unfoldable pub halves : List ℕ → List ℕ
halves ns = flat_map (little_bytes 2) ns

unfoldable pub words : List ℕ → List ℕ
words ns = flat_map (little_bytes 4) ns

-- magic bytes, 32 bits, little-endian, version 1
abbrev pub identity : List ℕ
identity = 0x7f ∷ 0x45 ∷ 0x4c ∷ 0x46 ∷ 1 ∷ 1 ∷ 1 ∷ 0 ∷ 0 ∷ 0 ∷ 0 ∷ 0 ∷ 0 ∷ 0 ∷ 0 ∷ 0 ∷ []

-- executable, RISC-V, version 1, entry, the program headers behind this header, no sections, no flags, the sizes of
-- both headers, how many, no sections
unfoldable pub file_header : ℕ → ℕ → List ℕ
file_header entry count =
    identity ++ halves (2 ∷ 243 ∷ []) ++ words (1 ∷ entry ∷ 52 ∷ 0 ∷ 0 ∷ [])
    ++ halves (52 ∷ 32 ∷ count ∷ 0 ∷ 0 ∷ 0 ∷ [])

-- type, offset, vaddr, paddr, filesz, memsz, flags, align
unfoldable pub program_header : ℕ → SegmentValue → List ℕ
program_header offset s = words (1 ∷ offset ∷ s.vaddr ∷ s.vaddr ∷ length s.bytes ∷ s.memsz ∷ s.flags ∷ 1 ∷ [])

-- one behind the other, the bytes of the first segment being at this offset
unfoldable pub program_headers : ℕ → List SegmentValue → List ℕ
program_headers offset [] = []
program_headers offset (s ∷ ss) = program_header offset s ++ program_headers (offset + length s.bytes) ss

unfoldable pub segment_bytes : List SegmentValue → List ℕ
segment_bytes segments = flat_map (λ (s : SegmentValue). s.bytes) segments

unfoldable pub written_image : ℕ → List SegmentValue → List ℕ
written_image entry segments =
    file_header entry (length segments) ++ program_headers (52 + 32 * length segments) segments
    ++ segment_bytes segments
