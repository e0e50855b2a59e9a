-- What holds of every image.
use Rattle.std.specs.Prelude.{◌≡◌, ℕ, ◌+◌, ◌^◌, ◌<◌, ◌≤◌, true, false, is_some, List, length, All, AllPairs}
use Rattle.elf_load.specs.DdmTypes.CodeMap.{CodeWord, word_at}
use Rattle.tree_model.specs.Start.Sources.{SegmentValue, ImageValue, segment_span}
use Rattle.tree_model.specs.Start.Machine.{spans_meet}
use Rattle.tree_model.specs.Start.Memory.{start_code}

-- the segment has no more bytes than memory
abbrev pub FitsMemory : SegmentValue → Type 0
FitsMemory s = length s.bytes ≤ s.memsz

-- the segment's memory ends at the last address or before
abbrev pub EndsInside : SegmentValue → Type 0
EndsInside s = s.vaddr + s.memsz ≤ 2 ^ 32

-- the segment has memory
abbrev pub HasMemory : SegmentValue → Type 0
HasMemory s = 0 < s.memsz

-- no byte of memory is in both segments
abbrev pub AreApart : SegmentValue → SegmentValue → Type 0
AreApart a b = spans_meet (segment_span a) (segment_span b) ≡ false

abbrev pub image_value : ℕ → List SegmentValue → ImageValue
image_value entry segments = record { entry = entry; segments = segments }

-- an image and the code that is kept with it
pub record IsImage (image : ImageValue) (kept : List CodeWord) : Type 0 where
  pub code : kept ≡ start_code image
  pub fits : All FitsMemory image.segments
  pub ends : All EndsInside image.segments
  pub full : All HasMemory image.segments
  pub apart : AllPairs AreApart image.segments
  pub entry : is_some (word_at kept image.entry) ≡ true

-- segments that make an image with this code, if the entry is an address of it
pub record IsCoded (entry : ℕ) (segments : List SegmentValue) (kept : List CodeWord) : Type 0 where
  pub code : kept ≡ start_code (image_value entry segments)
  pub fits : All FitsMemory segments
  pub ends : All EndsInside segments
  pub full : All HasMemory segments
  pub apart : AllPairs AreApart segments
