-- Segments at the edges of memory and of each other.
use Rattle.std.specs.Prelude.{◌≡◌, true, List, [], ◌∷◌, map, take, Ok, Err}
use Rattle.elf_load.specs.DdmTypes.ItemTable.{items_of}
use Rattle.tree_model.specs.Start.Sources.{SegmentValue, ImageValue, segment_span}
use Rattle.elf_load.specs.declared.refusal.ImageRefusal.TheVariants.{NotElf, Compressed, HeaderOutside, AddressWraps, SegmentsOverlap}
use Rattle.elf_load.specs.SmallFile.{code_segment, data_segment, blank_segment, small_file, changed_at, read_small, read_with}

-- the code and the segments behind it
abbrev image_with : List SegmentValue → ImageValue
image_with others = record { entry = 0x10000; segments = code_segment ∷ others }

-- four bytes that may be written, and four others of the same item that may not
abbrev sharers : List SegmentValue
sharers = blank_segment 1 0x20000 4 2 ∷ blank_segment 2 0x20008 4 4 ∷ []

pub record SegmentEdges : Type 0 where
  pub whole : read_small small_file ≡ Ok (image_with (data_segment ∷ []))
  -- memory ends with the last address
  pub last_bytes : read_with (blank_segment 1 0xfffffff0 16 6 ∷ []) ≡ Ok (image_with (blank_segment 1 0xfffffff0 16 6 ∷ []))
  pub past_the_last : read_with (blank_segment 1 0xfffffff0 17 6 ∷ []) ≡ Err (AddressWraps 1)
  -- a segment of no memory is left out, and the headers behind it keep their numbers
  pub no_memory :
      read_with (blank_segment 1 0x10004 0 6 ∷ blank_segment 2 0x20000 16 6 ∷ [])
      ≡ Ok (image_with (blank_segment 2 0x20000 16 6 ∷ []))
  -- segments that touch don't overlap, and those with one common byte do
  pub touching : read_with (blank_segment 1 0x1001c 16 6 ∷ []) ≡ Ok (image_with (blank_segment 1 0x1001c 16 6 ∷ []))
  pub one_common_byte : read_with (blank_segment 1 0x1001b 16 6 ∷ []) ≡ Err (SegmentsOverlap 0 1)
  pub one_common_byte_below : read_with (blank_segment 1 0xfff1 16 6 ∷ []) ≡ Err (SegmentsOverlap 0 1)
  -- two segments in one item, which is writable since one of them is
  pub sharing : read_with sharers ≡ Ok (image_with sharers)
  pub shared_item : items_of 16 (map segment_span sharers) ≡ record { size = 16; rows = record { address = 0x20000; writable = true } ∷ [] }
  pub fifty_one_bytes : read_small (take 51 small_file) ≡ Err NotElf
  -- the table of headers ends one byte past the file
  pub table_one_byte_past : read_small (take 115 small_file) ≡ Err (HeaderOutside 1)
  pub compressed : read_small (changed_at 36 (1 ∷ []) small_file) ≡ Err Compressed
