-- The code of segments, part by part.
use Rattle.std.specs.Prelude.{◌≡◌, ℕ, ◌+◌, ◌-◌, ◌*◌, ◌/◌, ◌%◌, ◌^◌, ◌<◌, ◌≤◌, List, [], ◌∷◌, length, map, min}
use Rattle.std.specs.List.{range_with_len, AllZip}
use Rattle.elf_load.specs.DdmTypes.declared.code_map.CodePart.{CodePart}
use Rattle.elf_load.specs.DdmTypes.CodeMap.{part_words, part_end, IsInPart}
use Rattle.tree_model.specs.Start.Sources.{SegmentValue}
use Rattle.tree_model.specs.Start.Memory.{memory_word, first_word, past_word, segment_code}

-- the word of memory with this number, its address being four times as large
abbrev pub numbered_word : SegmentValue → ℕ → ℕ
numbered_word s n = memory_word (s ∷ []) (4 * n)

-- how many words lie in the segment
abbrev pub word_count : SegmentValue → ℕ
word_count s = past_word s - first_word s

-- how many bytes of the segment are before its first word
abbrev pub first_offset : SegmentValue → ℕ
first_offset s = 4 * first_word s - s.vaddr

-- how many words that lie in the segment have all of their bytes in the file: they are the first ones
abbrev pub file_word_count : SegmentValue → ℕ
file_word_count s = min (word_count s) ((length s.bytes - first_offset s) / 4)

-- the words that lie in the segment, so many of the first ones
abbrev pub first_words : SegmentValue → ℕ → List ℕ
first_words s count = map (numbered_word s) (range_with_len (first_word s) count)

-- the words that lie in the segment
abbrev pub segment_words : SegmentValue → List ℕ
segment_words s = first_words s (word_count s)

-- the segment has the byte at this address
abbrev pub IsInSegment : SegmentValue → ℕ → Type 0
IsInSegment s address = (s.vaddr ≤ address) × (address < s.vaddr + s.memsz)

-- the part has the code of the segment
pub record IsPartOf (s : SegmentValue) (p : CodePart) : Type 0 where
  pub words : part_words p ≡ segment_code s
  pub aligned : p.start % 4 ≡ 0
  pub ends : part_end p ≤ 2 ^ 32
  pub inside : (address : ℕ) → IsInPart p address → IsInSegment s address

-- each part has the code of the segment in its place
abbrev pub ArePartsOf : List SegmentValue → List CodePart → Type 0
ArePartsOf segments parts = AllZip IsPartOf segments parts
