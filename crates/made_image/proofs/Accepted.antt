-- Every made image is accepted: no test of the file, of its headers and of its sizes refuses it.
use Rattle.std.proofs.Common.{◌≡◌, ℕ, suc, ◌+◌, ◌-◌, ◌/◌, ◌^◌, ◌<◌, ◌≤◌, List, [], ◌∷◌, ◌++◌, length, take, drop, map, None, Ok, refl, sym, ap, ◌∙◌, arith, inl, inr, append_assoc}
use Rattle.std.specs.Prelude.{true, false, nat_lt}
use Rattle.std.proofs.lemmas.Bool.Decides.{nat_tests}
use Rattle.byteorder.specs.Endian.{little_bytes, little_number}
use Rattle.byteorder.specs.Numbers.{little_number-reads_back}
use Rattle.std.proofs.Math.Seq.{take-append_seam}
use Rattle.made_image.specs.DdmTypes.ItemTable.{IsItemSize, item_count, items_of}
use Rattle.made_image.specs.DdmTypes.declared.sizes.Span.{Span}
use Rattle.made_image.specs.DdmTypes.CodeMap.{word_at, words_from}
use Rattle.made_image.specs.TreeModel.Start.Sources.{ImageValue}
use Rattle.made_image.specs.TreeModel.Start.Memory.{start_code}
use Rattle.elf_load.specs.declared.headers.ProgramHeader.{ProgramHeader}
use Rattle.elf_load.specs.ElfFile.{image_of, image_in, file_refusal, headers_refusal, header_refusal, sizes_refusal, entry_refusal, judged_entry, headers_of, loaded_headers, is_elf, kind_refusal, flags_refusal, table_refusal, header_count, header_size, table_of, word_in, entry_of, code_refusal, code_bytes, items_refusal, items_met, header_span, segments_of}
use Rattle.elf_load.specs.ImageRule.{image_value}
use Rattle.elf_load.specs.Written.{halves, words, file_header, program_header, program_headers, segment_bytes, written_image}
use Rattle.made_image.specs.MadeImage.{made_image, made_program, made_segments, program_bytes}
use Rattle.made_image.specs.Accepted.{MadeImagesLoad}
use Rattle.made_image.proofs.ItemCounts.{items_in_two}
use Rattle.made_image.proofs.Lengths.{program_length, made_length}

-- ---- tests of numbers

no_more : (n m : ℕ) → m ≤ n → nat_lt n m ≡ false
no_more n m h = grind (arith, nat_tests)

more : (n m : ℕ) → n < m → nat_lt n m ≡ true
more n m h = grind (arith, nat_tests)

-- ---- what accepts a file

accepted : (size : ℕ) (file : List ℕ) (image : ImageValue) → file_refusal file ≡ None → headers_refusal (length file) [] (headers_of file) ≡ None → sizes_refusal size (loaded_headers file) ≡ None → image_in file ≡ image → entry_refusal image ≡ None
    → image_of size file ≡ Ok image
unfolding image_of judged_entry
accepted size file image a b c d e = rw (a, b, c, d, e) refl

file_accepted : (file : List ℕ) → nat_lt 0x400000 (length file) ≡ false → is_elf file ≡ true → kind_refusal file ≡ None → flags_refusal file ≡ None → table_refusal file ≡ None → file_refusal file ≡ None
unfolding file_refusal
file_accepted file a b c d e = rw (a, b, c, d, e) refl

table_accepted : (file : List ℕ) → header_count file ≡ 2 → header_size file ≡ 32 → table_of file ≡ 52 → 116 ≤ length file → table_refusal file ≡ None
unfolding table_refusal
table_accepted file count size table long = rw (count, size, table, no_more (length file) 84 (omega (arith, long)), no_more (length file) 116 long) refl

-- ---- the file header

elf_accepted : (rest : List ℕ) → nat_lt (length (file_header 0x10000 2 ++ rest)) 52 ≡ false → is_elf (file_header 0x10000 2 ++ rest) ≡ true
unfolding file_header halves words
elf_accepted rest long = rw long refl

kind_accepted : (rest : List ℕ) → kind_refusal (file_header 0x10000 2 ++ rest) ≡ None
unfolding kind_refusal file_header halves words
kind_accepted rest = refl

flags_accepted : (rest : List ℕ) → flags_refusal (file_header 0x10000 2 ++ rest) ≡ None
unfolding flags_refusal file_header halves words
flags_accepted rest = refl

fields : (rest : List ℕ) → (header_count (file_header 0x10000 2 ++ rest) ≡ 2) × (header_size (file_header 0x10000 2 ++ rest) ≡ 32) × (table_of (file_header 0x10000 2 ++ rest) ≡ 52)
unfolding file_header halves words
fields rest = (refl, refl, refl)

-- ---- the program headers

-- what is behind the file header
abbrev behind : List ℕ → List ℕ
behind code = program_headers 116 (made_segments code) ++ segment_bytes (made_segments code)

abbrev file_of : List ℕ → List ℕ
file_of code = file_header 0x10000 2 ++ behind code

file_is : (code : List ℕ) → written_image 0x10000 (made_segments code) ≡ file_of code
unfolding written_image made_segments
file_is code = append_assoc (file_header 0x10000 2) (program_headers 116 (made_segments code)) (segment_bytes (made_segments code))

abbrev code_header : ℕ → ℕ → ProgramHeader
code_header filesz memsz = record { number = 0; kind = 1; offset = 116; vaddr = 0x10000; filesz = filesz; memsz = memsz; flags = 5 }

abbrev memory_header : ℕ → ProgramHeader
memory_header offset = record { number = 1; kind = 1; offset = offset; vaddr = 0x200000; filesz = 0; memsz = 256; flags = 6 }

abbrev headers : ℕ → List ProgramHeader
headers size = code_header size size ∷ memory_header (116 + size) ∷ []

read_headers : (code : List ℕ) → headers_of (file_of code) ≡ code_header (word_in (file_of code) 68) (word_in (file_of code) 72) ∷ memory_header (word_in (file_of code) 88) ∷ []
unfolding headers_of made_segments file_header program_headers program_header halves words
read_headers code = refl

sizes_there : (code : List ℕ)
    → (drop 68 (file_of code) ≡ little_bytes 4 (length code) ++ drop 72 (file_of code))
    × (drop 72 (file_of code) ≡ little_bytes 4 (length code) ++ drop 76 (file_of code))
    × (drop 88 (file_of code) ≡ little_bytes 4 (116 + length code) ++ drop 92 (file_of code))
unfolding made_segments file_header program_headers program_header halves words
sizes_there code = (refl, refl, refl)

word_back : (file : List ℕ) (place n : ℕ) (rest : List ℕ) → drop place file ≡ little_bytes 4 n ++ rest → n < 2 ^ 32 → word_in file place ≡ n
word_back file place n rest here small = ap (little_number 4) here ∙ little_number-reads_back 4 n rest small

headers_are : (code : List ℕ) → length code ≤ 400016 → headers_of (file_of code) ≡ headers (length code)
headers_are code short =
    let file = file_of code in
    let size = length code in
    let there = sizes_there code in
    let filesz = word_back file 68 size (drop 72 file) there.0 (omega (arith, short)) in
    let memsz = word_back file 72 size (drop 76 file) there.1 (omega (arith, short)) in
    let offset = word_back file 88 (116 + size) (drop 92 file) there.2 (omega (arith, short)) in
    read_headers code ∙ rw (filesz, memsz, offset) refl

headers_accepted : (size : ℕ) → 0 < size → size ≤ 400016 → headers_refusal (116 + size) [] (headers size) ≡ None
unfolding headers_refusal header_refusal
headers_accepted size some short =
    rw (no_more size size (omega arith), more 0 size some, no_more (116 + size) (116 + size) (omega arith), no_more 0x100000000 (0x10000 + size) (omega (arith, short)), no_more 0x200000 (0x10000 + size) (omega (arith, short))) refl

-- ---- the sizes

loaded_are : (file : List ℕ) (size : ℕ) → headers_of file ≡ headers size → 0 < size → loaded_headers file ≡ headers size
unfolding loaded_headers
loaded_are file size read some = rw (read, more 0 size some) refl

bytes_of_code : (size : ℕ) → code_bytes (headers size) ≡ size
unfolding code_bytes
bytes_of_code size = omega arith

code_accepted : (size : ℕ) → size ≤ 400016 → code_refusal (headers size) ≡ None
unfolding code_refusal
code_accepted size short = rw (bytes_of_code size, no_more 0x100000 size (omega (arith, short))) refl

-- 16 or 64 bytes: at most 25,002 and 17 items, or 6,251 and 5
few_items : (item_bytes size : ℕ) → IsItemSize item_bytes → size ≤ 400016 → item_count (items_of item_bytes (map header_span (headers size))) ≤ 65536
few_items item_bytes size is short = elim is as (λ h. item_count (items_of item_bytes (map header_span (headers size))) ≤ 65536) [
  | inl e ↦ rw e (let some : item_count (items_of 16 (map header_span (headers size))) ≤ (0x10000 + size) / 16 + 1 - 0x1000 + 17 = items_in_two 16 code memory (omega arith) in omega (arith, some, short))
  | inr e ↦ rw e (let some : item_count (items_of 64 (map header_span (headers size))) ≤ (0x10000 + size) / 64 + 1 - 0x400 + 5 = items_in_two 64 code memory (omega arith) in omega (arith, some, short))
] where
  code : Span
  code = header_span (code_header size size)

  memory : Span
  memory = header_span (memory_header (116 + size))

items_accepted : (item_bytes size : ℕ) → IsItemSize item_bytes → size ≤ 400016 → items_refusal item_bytes (headers size) ≡ None
unfolding items_refusal items_met
items_accepted item_bytes size is short =
    rw (no_more 65536 (item_count (items_of item_bytes (map header_span (headers size)))) (few_items item_bytes size is short)) refl

sizes_accepted : (item_bytes size : ℕ) → IsItemSize item_bytes → size ≤ 400016 → sizes_refusal item_bytes (headers size) ≡ None
unfolding sizes_refusal
sizes_accepted item_bytes size is short = rw (code_accepted size short, items_accepted item_bytes size is short) refl

-- ---- the image

code_there : (code : List ℕ) → drop 116 (file_of code) ≡ code ++ []
unfolding made_segments file_header program_headers program_header segment_bytes halves words
code_there code = refl

entry_there : (code : List ℕ) → entry_of (file_of code) ≡ 0x10000
unfolding file_header halves words
entry_there code = refl

image_is : (code : List ℕ) → 0 < length code → length code ≤ 400016 → image_in (file_of code) ≡ image_value 0x10000 (made_segments code)
unfolding image_in segments_of made_segments
image_is code some short =
    let file = file_of code in
    let loaded = loaded_are file (length code) (headers_are code short) some in
    let bytes : take (length code) (drop 116 file) ≡ code = ap (take (length code)) (code_there code) ∙ take-append_seam code [] in
    rw (loaded, entry_there code, bytes) refl

-- the code's first word is at the entry
entry_accepted : (code : List ℕ) → 4 ≤ length code → entry_refusal (image_value 0x10000 (made_segments code)) ≡ None
unfolding entry_refusal start_code made_segments word_at words_from
entry_accepted code some =
    let counted : (0x10000 + length code) / 4 - 0x4000 ≡ suc ((0x10000 + length code) / 4 - 0x4001) = omega (arith, some) in
    rw counted refl

-- ---- the whole

image_accepted : (item_bytes : ℕ) (code : List ℕ) → IsItemSize item_bytes → 4 ≤ length code → length code ≤ 400016 → image_of item_bytes (written_image 0x10000 (made_segments code)) ≡ Ok (image_value 0x10000 (made_segments code))
image_accepted item_bytes code is some short =
    let file = file_of code in
    let size = length code in
    let form = file_is code in
    let long : length file ≡ 116 + size = ap length (sym form) ∙ made_length code in
    let read = headers_are code short in
    let of_file = file_accepted file (no_more 0x400000 (length file) (omega (arith, long, short))) (elf_accepted (behind code) (no_more (length file) 52 (omega (arith, long)))) (kind_accepted (behind code)) (flags_accepted (behind code))
    (table_accepted file (fields (behind code)).0 (fields (behind code)).1 (fields (behind code)).2 (omega (arith, long))) in
    let of_headers : headers_refusal (length file) [] (headers_of file) ≡ None = rw (long, read) (headers_accepted size (omega (arith, some)) short) in
    let of_sizes : sizes_refusal item_bytes (loaded_headers file) ≡ None = ap (sizes_refusal item_bytes) (loaded_are file size read (omega (arith, some))) ∙ sizes_accepted item_bytes size is short in
    ap (image_of item_bytes) form ∙ accepted item_bytes file (image_value 0x10000 (made_segments code)) of_file of_headers of_sizes (image_is code (omega (arith, some)) short) (entry_accepted code some)

pub made_images_load : MadeImagesLoad
unfolding made_image
made_images_load item_bytes seed rounds is few =
    let size = program_length seed rounds in
    image_accepted item_bytes (program_bytes (made_program seed rounds)) is (omega (arith, size)) (omega (arith, size, few))
