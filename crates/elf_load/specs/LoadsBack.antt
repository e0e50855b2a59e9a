-- What is read of an image that was written.
use Rattle.std.specs.Prelude.{◌≡◌, ℕ, ◌+◌, ◌^◌, ◌<◌, ◌≤◌, List, [], ◌∷◌, All, filter, length, nat_lt, Bool, Ok}
use Rattle.tree_model.specs.Start.Sources.{SegmentValue, ImageValue}
use Rattle.elf_load.specs.ElfFile.{image_of}
use Rattle.elf_load.specs.ImageRule.{image_value}
use Rattle.elf_load.specs.Written.{written_image}

-- the numbers of a segment that are written as words
pub record HasWords (s : SegmentValue) : Type 0 where
  pub vaddr : s.vaddr < 2 ^ 32
  pub flags : s.flags < 2 ^ 32
  pub memsz : s.memsz < 2 ^ 32

-- what may be written: at most 64 segments, 4 MiB
pub record IsWritable (entry : ℕ) (segments : List SegmentValue) : Type 0 where
  pub small : entry < 2 ^ 32
  pub few : length segments ≤ 64
  pub words : All HasWords segments
  pub short : length (written_image entry segments) ≤ 4194304

-- the segments with the numbers of their headers, from this one on
abbrev pub numbered_from : ℕ → List SegmentValue → List SegmentValue
numbered_from k [] = []
numbered_from k (s ∷ ss) = record s { header = k } ∷ numbered_from (k + 1) ss

abbrev pub has_size : SegmentValue → Bool
has_size s = nat_lt 0 s.memsz

-- headers numbered in order, segments of no memory left out
abbrev pub loaded_back : List SegmentValue → List SegmentValue
loaded_back segments = filter has_size (numbered_from 0 segments)

-- an image that is read of a written one has its entry and its segments
abbrev pub LoadsBack : Type 0
LoadsBack =
    (item_bytes entry : ℕ) (segments : List SegmentValue) (image : ImageValue) → IsWritable entry segments →
    image_of item_bytes (written_image entry segments) ≡ Ok image →
    image ≡ image_value entry (loaded_back segments)
