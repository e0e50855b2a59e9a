-- An image of a file of bytes is made of bytes.
-- Letters: i is an image, h a program header.
use Rattle.std.proofs.Common.{◌≡◌, ℕ, zero, suc, ◌<◌, List, [], ◌∷◌, map, take, drop, Option, Some, None, Ok, subst, arith}
use Rattle.std.specs.Prelude.{slice_index}
use Rattle.std.specs.List.{AllByRecursion}
use Rattle.byteorder.specs.Numbers.{little_from-lt}
use Rattle.file_laws.specs.TreeModel.Start.Sources.{SegmentValue}
use Rattle.elf_load.specs.ElfFile.{word_in, headers_of, file_refusal, headers_refusal, loaded_headers, segment_of, segments_of, image_in, sizes_refusal, entry_refusal, by_entry, judged_entry, unless_too_large, by_headers, by_file, image_of}
use Rattle.elf_load.specs.declared.headers.ProgramHeader.{ProgramHeader}
use Rattle.elf_load.specs.declared.refusal.ImageRefusal.{ImageRefusal}
use Rattle.value_laws.specs.Images.{IsOfBytes}
use Rattle.file_laws.specs.Images.{AreBytes, AcceptedImagesAreOfBytes}

-- ---- parts of a file of bytes

taken : (k : ℕ) (file : List ℕ) → AreBytes file → AreBytes (take k file)
taken zero file h = tt
taken (suc k) [] h = tt
taken (suc k) (b ∷ file) h = (h.0, taken k file h.1)

dropped : (k : ℕ) (file : List ℕ) → AreBytes file → AreBytes (drop k file)
dropped zero file h = h
dropped (suc k) [] h = tt
dropped (suc k) (b ∷ file) h = dropped k file h.1

at : (file : List ℕ) → AreBytes file → (k : ℕ) → slice_index file k < 256
at [] h k = omega arith
at (b ∷ file) h zero = h.0
at (b ∷ file) h (suc k) = at file h.1 k

word : (file : List ℕ) (place : ℕ) → AreBytes file → word_in file place < 4294967296
word file place h = little_from-lt 0 4 (drop place file) (at (drop place file) (dropped place file h))

segments : (file : List ℕ) (hs : List ProgramHeader) → AreBytes file → AllByRecursion (λ (s : SegmentValue). AreBytes s.bytes) (map (segment_of file) hs)
segments file [] h = tt
segments file (p ∷ hs) h = (taken p.filesz (drop p.offset file) (dropped p.offset file h), segments file hs h)

of-bytes : (file : List ℕ) → AreBytes file → IsOfBytes (image_in file)
unfolding image_in segments_of
of-bytes file h = record { entry = word file 24 h; bytes = segments file (loaded_headers file) h }

-- ---- an image that is accepted is that of its file

pub image-bytes : AcceptedImagesAreOfBytes
unfolding image_of judged_entry
image-bytes item_bytes file i h = by_file_refusal (file_refusal file) where
  by_entry_refusal : (o : Option ImageRefusal) → by_entry o (image_in file) ≡ Ok i → IsOfBytes i
  by_entry_refusal None e = let same : image_in file ≡ i = cc in subst IsOfBytes same (of-bytes file h)
  by_entry_refusal (Some r) e = cc

  by_sizes_refusal : (o : Option ImageRefusal) → unless_too_large o file ≡ Ok i → IsOfBytes i
  by_sizes_refusal None e = by_entry_refusal (entry_refusal (image_in file)) e
  by_sizes_refusal (Some r) e = cc

  by_headers_refusal : (o : Option ImageRefusal) → by_headers o item_bytes file ≡ Ok i → IsOfBytes i
  by_headers_refusal None e = by_sizes_refusal (sizes_refusal item_bytes (loaded_headers file)) e
  by_headers_refusal (Some r) e = cc

  by_file_refusal : (o : Option ImageRefusal) → by_file o item_bytes file ≡ Ok i → IsOfBytes i
  by_file_refusal None e = by_headers_refusal (headers_refusal _ [] (headers_of file)) e
  by_file_refusal (Some r) e = cc
