-- The image of an ELF file's bytes, or the first refusal: 32 bits, little-endian, executable, RISC-V.
use Rattle.std.specs.Prelude.{ℕ, ◌+◌, ◌*◌, Bool, true, false, not, ◌&&◌, ◌||◌, nat_eq, nat_lt, List, [], ◌∷◌, ◌++◌}
use Rattle.std.specs.Prelude.{map, length, take, drop, filter, sum_by, find, Option, Some, None, is_none, Result, Ok}
use Rattle.std.specs.Prelude.{Err, slice_index, bit_and, if◌then◌else◌}
use Rattle.std.specs.List.{range_with_len}
use Rattle.byteorder.specs.Endian.{little_number}
use Rattle.elf_load.specs.DdmTypes.ItemTable.{item_count, items_of}
use Rattle.elf_load.specs.DdmTypes.CodeMap.{word_at}
use Rattle.elf_load.specs.DdmTypes.declared.sizes.Span.{Span}
use Rattle.tree_model.specs.State.Lists.{first_some}
use Rattle.tree_model.specs.Start.Sources.{SegmentValue, ImageValue, is_executable, segment_span}
use Rattle.tree_model.specs.Start.Machine.{spans_meet}
use Rattle.tree_model.specs.Start.Memory.{start_code}
use Rattle.elf_load.specs.declared.headers.ProgramHeader.{ProgramHeader}
use Rattle.elf_load.specs.declared.refusal.ImageRefusal.{ImageRefusal}

-- ---- the file's numbers, each with its lowest byte first

-- the half word at this place of the file
abbrev pub half_at : List ℕ → ℕ → ℕ
half_at file place = little_number 2 (drop place file)

-- the word at this place of the file
abbrev pub word_in : List ℕ → ℕ → ℕ
word_in file place = little_number 4 (drop place file)

-- the fields of the ELF header, by their places
abbrev pub entry_of : List ℕ → ℕ
entry_of file = word_in file 24

abbrev pub table_of : List ℕ → ℕ
table_of file = word_in file 28

abbrev pub flags_of : List ℕ → ℕ
flags_of file = word_in file 36

abbrev pub header_size : List ℕ → ℕ
header_size file = half_at file 42

abbrev pub header_count : List ℕ → ℕ
header_count file = half_at file 44

-- where the header with this number begins
abbrev pub header_place : List ℕ → ℕ → ℕ
header_place file k = table_of file + 32 * k

-- the program header with this number; its words are type, offset, vaddr, paddr, filesz, memsz, flags, align
abbrev pub header_at : List ℕ → ℕ → ProgramHeader
header_at file k =
    let place = header_place file k in
    record {
      number = k;
      kind = word_in file place;
      offset = word_in file (place + 4);
      vaddr = word_in file (place + 8);
      filesz = word_in file (place + 16);
      memsz = word_in file (place + 20);
      flags = word_in file (place + 24);
    }

unfoldable pub headers_of : List ℕ → List ProgramHeader
headers_of file = map (header_at file) (range_with_len 0 (header_count file))

-- ---- refusals

abbrev pub refused_if : Bool → ImageRefusal → Option ImageRefusal
refused_if true r = Some r
refused_if false r = None

-- the first of several
abbrev pub first_refusal : List (Option ImageRefusal) → Option ImageRefusal
first_refusal [] = None
first_refusal (r ∷ rs) = first_some r (first_refusal rs)

-- the number has one of these bits
abbrev pub has_bit : ℕ → ℕ → Bool
has_bit n bits = not (nat_eq (bit_and n bits) 0)

-- 52 bytes or more, with the four magic bytes and version 1
abbrev pub is_elf : List ℕ → Bool
is_elf file =
    not (nat_lt (length file) 52) && (nat_eq (slice_index file 0) 0x7f && (nat_eq (slice_index file 1) 0x45
    && (nat_eq (slice_index file 2) 0x4c && (nat_eq (slice_index file 3) 0x46 && nat_eq (slice_index file 6) 1))))

-- 32 bits, little-endian
abbrev pub is_right_class : List ℕ → Bool
is_right_class file = nat_eq (slice_index file 4) 1 && nat_eq (slice_index file 5) 1

-- what the fields that say what kind of file it is are refused for
unfoldable pub kind_refusal : List ℕ → Option ImageRefusal
kind_refusal file = first_refusal (
    refused_if (not (is_right_class file)) ImageRefusal.WrongClass ∷
    refused_if (not (nat_eq (half_at file 16) 2)) ImageRefusal.NotExecutable ∷
    refused_if (not (nat_eq (half_at file 18) 243)) ImageRefusal.WrongMachine ∷
    [])

-- what the flags are refused for
unfoldable pub flags_refusal : List ℕ → Option ImageRefusal
flags_refusal file = first_refusal (
    refused_if (has_bit (flags_of file) 0x1) ImageRefusal.Compressed ∷
    refused_if (has_bit (flags_of file) 0x6) ImageRefusal.HardFloat ∷
    refused_if (has_bit (flags_of file) 0x8) ImageRefusal.Embedded ∷
    [])

-- the 32 bytes of this header aren't all in the file
abbrev pub is_outside : List ℕ → ℕ → Bool
is_outside file k = nat_lt (length file) (header_place file k + 32)

abbrev pub outside_at : Option ℕ → Option ImageRefusal
outside_at None = None
outside_at (Some k) = Some (ImageRefusal.HeaderOutside k)

-- what the table of program headers is refused for
unfoldable pub table_refusal : List ℕ → Option ImageRefusal
table_refusal file = first_refusal (
    refused_if (nat_lt 64 (header_count file)) (ImageRefusal.TooManyHeaders (header_count file)) ∷
    refused_if (nat_lt 0 (header_count file) && not (nat_eq (header_size file) 32)) (ImageRefusal.HeaderOutside 0) ∷
    outside_at (find (is_outside file) (range_with_len 0 (header_count file))) ∷
    [])

unfoldable pub file_refusal : List ℕ → Option ImageRefusal
file_refusal file = first_refusal (
    refused_if (nat_lt 0x400000 (length file)) ImageRefusal.TooLong ∷
    refused_if (not (is_elf file)) ImageRefusal.NotElf ∷
    kind_refusal file ∷
    flags_refusal file ∷
    table_refusal file ∷
    [])

-- ---- what a program header is refused for

-- type LOAD
abbrev pub is_load : ProgramHeader → Bool
is_load h = nat_eq h.kind 1

-- type DYNAMIC or INTERP
abbrev pub is_dynamic : ProgramHeader → Bool
is_dynamic h = nat_eq h.kind 2 || nat_eq h.kind 3

-- more bytes in the file than in memory, or some behind the file's end
abbrev pub bytes_outside : ℕ → ProgramHeader → Bool
bytes_outside file_length h = nat_lt h.memsz h.filesz || (nat_lt 0 h.filesz && nat_lt file_length (h.offset + h.filesz))

abbrev pub wraps : ProgramHeader → Bool
wraps h = nat_lt 0x100000000 (h.vaddr + h.memsz)

-- the memory of its segment, without the file's bytes of it
abbrev pub memory_of : ProgramHeader → SegmentValue
memory_of h = record { header = h.number; vaddr = h.vaddr; flags = h.flags; bytes = []; memsz = h.memsz }

abbrev pub header_span : ProgramHeader → Span
header_span h = segment_span (memory_of h)

-- both are segments, and a byte of memory is in both
abbrev pub meets : ProgramHeader → ProgramHeader → Bool
meets h a = is_load a && (is_load h && spans_meet (header_span a) (header_span h))

abbrev pub overlap_with : ProgramHeader → Option ProgramHeader → Option ImageRefusal
overlap_with h None = None
overlap_with h (Some a) = Some (ImageRefusal.SegmentsOverlap a.number h.number)

-- in a file of this length, behind these headers
unfoldable pub header_refusal : ℕ → List ProgramHeader → ProgramHeader → Option ImageRefusal
header_refusal file_length earlier h = first_refusal (
    refused_if (is_dynamic h) (ImageRefusal.Dynamic h.number) ∷
    refused_if (is_load h && bytes_outside file_length h) (ImageRefusal.SegmentOutside h.number) ∷
    refused_if (is_load h && wraps h) (ImageRefusal.AddressWraps h.number) ∷
    overlap_with h (find (meets h) earlier) ∷
    [])

-- header by header
unfoldable pub headers_refusal : ℕ → List ProgramHeader → List ProgramHeader → Option ImageRefusal
headers_refusal file_length earlier [] = None
headers_refusal file_length earlier (h ∷ hs) =
    first_some (header_refusal file_length earlier h) (headers_refusal file_length (earlier ++ h ∷ []) hs)

-- ---- the image

abbrev pub has_memory : ProgramHeader → Bool
has_memory h = is_load h && nat_lt 0 h.memsz

-- the headers of the image's segments: those of no memory are left out
unfoldable pub loaded_headers : List ℕ → List ProgramHeader
loaded_headers file = filter has_memory (headers_of file)

-- the segment of a program header: its memory begins with these bytes of the file
abbrev pub segment_of : List ℕ → ProgramHeader → SegmentValue
segment_of file h = record (memory_of h) { bytes = take h.filesz (drop h.offset file) }

unfoldable pub segments_of : List ℕ → List ProgramHeader → List SegmentValue
segments_of file loaded = map (segment_of file) loaded

unfoldable pub image_in : List ℕ → ImageValue
image_in file = record { entry = entry_of file; segments = segments_of file (loaded_headers file) }

-- ---- what the segments are refused for

abbrev pub code_bytes_of : ProgramHeader → ℕ
code_bytes_of h = if is_executable (memory_of h) then h.memsz else 0

-- the memory of executable segments
unfoldable pub code_bytes : List ProgramHeader → ℕ
code_bytes loaded = sum_by code_bytes_of loaded

-- how many items of this many bytes the segments overlap
unfoldable pub items_met : ℕ → List ProgramHeader → ℕ
items_met item_bytes loaded = item_count (items_of item_bytes (map header_span loaded))

-- at least one segment, and no more than 1 MiB of code
unfoldable pub code_refusal : List ProgramHeader → Option ImageRefusal
code_refusal loaded = first_refusal (
    refused_if (nat_eq (length loaded) 0) ImageRefusal.NoSegments ∷
    refused_if (nat_lt 0x100000 (code_bytes loaded)) (ImageRefusal.TooMuchCode (code_bytes loaded)) ∷
    [])

unfoldable pub items_refusal : ℕ → List ProgramHeader → Option ImageRefusal
items_refusal item_bytes loaded =
    refused_if (nat_lt 65536 (items_met item_bytes loaded))
    (ImageRefusal.TooManyItems (items_met item_bytes loaded))

abbrev pub code_then_items : Option ImageRefusal → ℕ → List ProgramHeader → Option ImageRefusal
code_then_items (Some r) item_bytes loaded = Some r
code_then_items None item_bytes loaded = items_refusal item_bytes loaded

-- what the segments are refused for together
unfoldable pub sizes_refusal : ℕ → List ProgramHeader → Option ImageRefusal
sizes_refusal item_bytes loaded = code_then_items (code_refusal loaded) item_bytes loaded

unfoldable pub entry_refusal : ImageValue → Option ImageRefusal
entry_refusal image = refused_if (is_none (word_at (start_code image) image.entry)) (ImageRefusal.BadEntry image.entry)

-- ---- all in order: the file, then each program header, then what the segments make together

abbrev pub by_entry : Option ImageRefusal → ImageValue → Result ImageValue ImageRefusal
by_entry (Some r) image = Err r
by_entry None image = Ok image

unfoldable pub judged_entry : ImageValue → Result ImageValue ImageRefusal
judged_entry image = by_entry (entry_refusal image) image

abbrev pub unless_too_large : Option ImageRefusal → List ℕ → Result ImageValue ImageRefusal
unless_too_large (Some r) file = Err r
unless_too_large None file = judged_entry (image_in file)

abbrev pub by_headers : Option ImageRefusal → ℕ → List ℕ → Result ImageValue ImageRefusal
by_headers (Some r) item_bytes file = Err r
by_headers None item_bytes file = unless_too_large (sizes_refusal item_bytes (loaded_headers file)) file

abbrev pub by_file : Option ImageRefusal → ℕ → List ℕ → Result ImageValue ImageRefusal
by_file (Some r) item_bytes file = Err r
by_file None item_bytes file = by_headers (headers_refusal (length file) [] (headers_of file)) item_bytes file

-- the image of a file for items of this many bytes, or the first refusal
unfoldable pub image_of : ℕ → List ℕ → Result ImageValue ImageRefusal
image_of item_bytes file = by_file (file_refusal file) item_bytes file
