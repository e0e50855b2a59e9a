-- Every image of a test is accepted: no test of the file, of its headers and of its sizes refuses it.
use Rattle.std.proofs.Common.{◌≡◌, ℕ, suc, ◌+◌, ◌-◌, ◌/◌, ◌^◌, ◌<◌, ◌≤◌, List, [], ◌∷◌, ◌++◌, length, drop, map, None, Ok, refl, sym, ap, ◌∙◌, arith, inl, inr, append_assoc, subst, length-append}
use Rattle.std.specs.Prelude.{Bool, true, false, nat_lt, Result, Err, is_ok, if◌then◌else◌}
use Rattle.std.proofs.lemmas.Bool.Decides.{nat_tests}
use Rattle.byteorder.specs.Endian.{little_bytes, little_number}
use Rattle.byteorder.specs.Numbers.{little_number-reads_back}
use Rattle.elf_load.specs.DdmTypes.ItemTable.{IsItemSize, item_count, items_of}
use Rattle.elf_load.specs.DdmTypes.CodeMap.{word_at, words_from}
use Rattle.elf_load.specs.TreeModel.Start.Memory.{start_code}
use Rattle.elf_load.specs.declared.headers.ProgramHeader.{ProgramHeader}
use Rattle.elf_load.specs.ElfFile.{image_of, image_in, file_refusal, headers_refusal, header_refusal, sizes_refusal, entry_refusal, judged_entry, headers_of, loaded_headers, is_elf, kind_refusal, flags_refusal, table_refusal, header_count, header_size, table_of, word_in, entry_of, code_refusal, code_bytes, items_refusal, items_met, header_span, segments_of}
use Rattle.elf_load.specs.Written.{halves, words, file_header, program_header, program_headers, segment_bytes, written_image}
use Rattle.elf_load.proofs.Pushes.{room_for_bytes}
use Rattle.litmus_model.specs.declared.test.Runs.{Runs}
use Rattle.litmus_model.specs.declared.refusal.ImageRefusal.{ImageRefusal}
use Rattle.litmus_model.specs.Image.{blocks_of, code_of, image_at, memory_of, placed_image, places_of, test_image, test_segments}
use Rattle.litmus_model.specs.Image as image
use Rattle.litmus_model.specs.Sound.{IsSound}
use Rattle.litmus_model.specs.Test.{Test}
use Rattle.litmus_image.specs.Accepted.{AssembledImagesLoad}
use Rattle.litmus_image.proofs.Bytes.{placed, short_code, short_memory, some_code}
use Rattle.litmus_image.proofs.ItemCounts.{items_at_most}

-- ---- tests of numbers

no_more : (n m : ℕ) → m ≤ n → nat_lt n m ≡ false
no_more n m h = grind (arith, nat_tests)

more : (n m : ℕ) → n < m → nat_lt n m ≡ true
more n m h = grind (arith, nat_tests)

-- ---- what accepts a file

accepted : (size : ℕ) (file : List ℕ) → file_refusal file ≡ None → headers_refusal (length file) [] (headers_of file) ≡ None → sizes_refusal size (loaded_headers file) ≡ None → entry_refusal (image_in file) ≡ None
    → is_ok (image_of size file) ≡ true
unfolding image_of judged_entry
accepted size file a b c d = rw (a, b, c, d) refl

file_accepted : (file : List ℕ) → nat_lt 0x400000 (length file) ≡ false → is_elf file ≡ true → kind_refusal file ≡ None → flags_refusal file ≡ None → table_refusal file ≡ None → file_refusal file ≡ None
unfolding file_refusal
file_accepted file a b c d e = rw (a, b, c, d, e) refl

table_accepted : (file : List ℕ) → header_count file ≡ 2 → header_size file ≡ 32 → table_of file ≡ 52 → 116 ≤ length file → table_refusal file ≡ None
unfolding table_refusal
table_accepted file count size table long = rw (count, size, table, no_more (length file) 84 (omega (arith, long)), no_more (length file) 116 long) refl

-- ---- the file header

elf_accepted : (rest : List ℕ) → nat_lt (length (file_header 0x10000 2 ++ rest)) 52 ≡ false → is_elf (file_header 0x10000 2 ++ rest) ≡ true
unfolding file_header halves words
elf_accepted rest long = rw long refl

kind_accepted : (rest : List ℕ) → kind_refusal (file_header 0x10000 2 ++ rest) ≡ None
unfolding kind_refusal file_header halves words
kind_accepted rest = refl

flags_accepted : (rest : List ℕ) → flags_refusal (file_header 0x10000 2 ++ rest) ≡ None
unfolding flags_refusal file_header halves words
flags_accepted rest = refl

fields : (rest : List ℕ) → (header_count (file_header 0x10000 2 ++ rest) ≡ 2) × (header_size (file_header 0x10000 2 ++ rest) ≡ 32) × (table_of (file_header 0x10000 2 ++ rest) ≡ 52)
unfolding file_header halves words
fields rest = (refl, refl, refl)

-- ---- the program headers

-- what is behind the file header
abbrev behind : List ℕ → List ℕ → List ℕ
behind code memory = program_headers 116 (test_segments code memory) ++ segment_bytes (test_segments code memory)

abbrev file_of : List ℕ → List ℕ → List ℕ
file_of code memory = file_header 0x10000 2 ++ behind code memory

file_is : (code memory : List ℕ) → written_image 0x10000 (test_segments code memory) ≡ file_of code memory
unfolding written_image test_segments
file_is code memory = append_assoc (file_header 0x10000 2) (program_headers 116 (test_segments code memory)) (segment_bytes (test_segments code memory))

file_length : (code memory : List ℕ) → length (written_image 0x10000 (test_segments code memory)) ≡ 116 + length code + length memory
unfolding test_segments segment_bytes
file_length code memory =
    let whole = room_for_bytes 0x10000 (test_segments code memory) in
    let bytes = length-append code (memory ++ []) in
    let last = length-append memory [] in
    omega (arith, whole, bytes, last)

abbrev code_header : ℕ → ℕ → ProgramHeader
code_header filesz memsz = record { number = 0; kind = 1; offset = 116; vaddr = 0x10000; filesz = filesz; memsz = memsz; flags = 5 }

abbrev memory_header : ℕ → ℕ → ℕ → ProgramHeader
memory_header offset filesz memsz = record { number = 1; kind = 1; offset = offset; vaddr = 0x200000; filesz = filesz; memsz = memsz; flags = 6 }

abbrev headers : ℕ → ℕ → List ProgramHeader
headers code memory = code_header code code ∷ memory_header (116 + code) memory memory ∷ []

read_headers : (code memory : List ℕ) → headers_of (file_of code memory)
    ≡ code_header (word_in (file_of code memory) 68) (word_in (file_of code memory) 72) ∷ memory_header (word_in (file_of code memory) 88) (word_in (file_of code memory) 100) (word_in (file_of code memory) 104) ∷ []
unfolding headers_of test_segments file_header program_headers program_header halves words
read_headers code memory = refl

sizes_there : (code memory : List ℕ)
    → (drop 68 (file_of code memory) ≡ little_bytes 4 (length code) ++ drop 72 (file_of code memory))
    × (drop 72 (file_of code memory) ≡ little_bytes 4 (length code) ++ drop 76 (file_of code memory))
    × (drop 88 (file_of code memory) ≡ little_bytes 4 (116 + length code) ++ drop 92 (file_of code memory))
    × (drop 100 (file_of code memory) ≡ little_bytes 4 (length memory) ++ drop 104 (file_of code memory))
    × (drop 104 (file_of code memory) ≡ little_bytes 4 (length memory) ++ drop 108 (file_of code memory))
unfolding test_segments file_header program_headers program_header halves words
sizes_there code memory = (refl, refl, refl, refl, refl)

word_back : (file : List ℕ) (place n : ℕ) (rest : List ℕ) → drop place file ≡ little_bytes 4 n ++ rest → n < 2 ^ 32 → word_in file place ≡ n
word_back file place n rest here small = ap (little_number 4) here ∙ little_number-reads_back 4 n rest small

headers_are : (code memory : List ℕ) → length code ≤ 262144 → length memory ≤ 262144 → headers_of (file_of code memory) ≡ headers (length code) (length memory)
headers_are code memory short few =
    let file = file_of code memory in
    let there = sizes_there code memory in
    let code_filesz = word_back file 68 (length code) (drop 72 file) there.0 (omega (arith, short)) in
    let code_memsz = word_back file 72 (length code) (drop 76 file) there.1 (omega (arith, short)) in
    let offset = word_back file 88 (116 + length code) (drop 92 file) there.2 (omega (arith, short)) in
    let filesz = word_back file 100 (length memory) (drop 104 file) there.3 (omega (arith, few)) in
    let memsz = word_back file 104 (length memory) (drop 108 file) there.4 (omega (arith, few)) in
    read_headers code memory ∙ rw (code_filesz, code_memsz, offset, filesz, memsz) refl

headers_accepted : (some : Bool) (code memory : ℕ) → nat_lt 0 memory ≡ some → 0 < code → code ≤ 262144 → memory ≤ 262144 → headers_refusal (116 + code + memory) [] (headers code memory) ≡ None
unfolding headers_refusal header_refusal
headers_accepted true code memory is full short few =
    rw (no_more code code (omega arith), more 0 code full, no_more (116 + code + memory) (116 + code) (omega arith), no_more 0x100000000 (0x10000 + code) (omega (arith, short)), no_more memory memory (omega arith), is, no_more (116 + code + memory) (116 + code + memory) (omega arith), no_more 0x100000000 (0x200000 + memory) (omega (arith, few)), more 0x10000 (0x200000 + memory) (omega arith), no_more 0x200000 (0x10000 + code) (omega (arith, short)))
    refl
headers_accepted false code memory is full short few =
    rw (no_more code code (omega arith), more 0 code full, no_more (116 + code + memory) (116 + code) (omega arith), no_more 0x100000000 (0x10000 + code) (omega (arith, short)), no_more memory memory (omega arith), is, no_more 0x100000000 (0x200000 + memory) (omega (arith, few)))
    refl

-- ---- the sizes

-- the memory has a segment where there are locations
abbrev loaded : Bool → ℕ → ℕ → List ProgramHeader
loaded some code memory = code_header code code ∷ (if some then memory_header (116 + code) memory memory ∷ [] else [])

loaded_are : (some : Bool) (file : List ℕ) (code memory : ℕ) → headers_of file ≡ headers code memory → nat_lt 0 memory ≡ some → 0 < code → loaded_headers file ≡ loaded some code memory
unfolding loaded_headers
loaded_are true file code memory read is full = rw (read, more 0 code full, is) refl
loaded_are false file code memory read is full = rw (read, more 0 code full, is) refl

bytes_of_code : (some : Bool) (code memory : ℕ) → code_bytes (loaded some code memory) ≡ code
unfolding code_bytes
bytes_of_code true code memory = omega arith
bytes_of_code false code memory = omega arith

code_accepted : (some : Bool) (code memory : ℕ) → code ≤ 262144 → code_refusal (loaded some code memory) ≡ None
unfolding code_refusal
code_accepted true code memory short = rw (bytes_of_code true code memory, no_more 0x100000 code (omega (arith, short))) refl
code_accepted false code memory short = rw (bytes_of_code false code memory, no_more 0x100000 code (omega (arith, short))) refl

-- 16 or 64 bytes: at most 16,386 items of each segment
few_items : (some : Bool) (item_bytes code memory : ℕ) → IsItemSize item_bytes → code ≤ 262144 → memory ≤ 262144 → item_count (items_of item_bytes (map header_span (loaded some code memory))) ≤ 65536
few_items true item_bytes code memory is short few = elim is as (λ h. item_count (items_of item_bytes (map header_span (loaded true code memory))) ≤ 65536) [
  | inl e ↦ rw e (let most = items_at_most 16 (map header_span (loaded true code memory)) (omega arith) in omega (arith, most, short, few))
  | inr e ↦ rw e (let most = items_at_most 64 (map header_span (loaded true code memory)) (omega arith) in omega (arith, most, short, few))
]
few_items false item_bytes code memory is short few = elim is as (λ h. item_count (items_of item_bytes (map header_span (loaded false code memory))) ≤ 65536) [
  | inl e ↦ rw e (let most = items_at_most 16 (map header_span (loaded false code memory)) (omega arith) in omega (arith, most, short))
  | inr e ↦ rw e (let most = items_at_most 64 (map header_span (loaded false code memory)) (omega arith) in omega (arith, most, short))
]

items_accepted : (some : Bool) (item_bytes code memory : ℕ) → IsItemSize item_bytes → code ≤ 262144 → memory ≤ 262144 → items_refusal item_bytes (loaded some code memory) ≡ None
unfolding items_refusal items_met
items_accepted some item_bytes code memory is short few =
    rw (no_more 65536 (item_count (items_of item_bytes (map header_span (loaded some code memory)))) (few_items some item_bytes code memory is short few)) refl

sizes_accepted : (some : Bool) (item_bytes code memory : ℕ) → IsItemSize item_bytes → code ≤ 262144 → memory ≤ 262144 → sizes_refusal item_bytes (loaded some code memory) ≡ None
unfolding sizes_refusal
sizes_accepted some item_bytes code memory is short few = rw (code_accepted some code memory short, items_accepted some item_bytes code memory is short few) refl

-- ---- the code's first word is at the entry

entry_there : (code memory : List ℕ) → entry_of (file_of code memory) ≡ 0x10000
unfolding file_header halves words
entry_there code memory = refl

entry_accepted : (some : Bool) (file : List ℕ) (code memory : ℕ) → loaded_headers file ≡ loaded some code memory → entry_of file ≡ 0x10000 → 4 ≤ code → entry_refusal (image_in file) ≡ None
unfolding entry_refusal image_in segments_of start_code word_at words_from
entry_accepted true file code memory are here full =
    let counted : (0x10000 + code) / 4 - 0x4000 ≡ suc ((0x10000 + code) / 4 - 0x4001) = omega (arith, full) in
    rw (are, here, counted) refl
entry_accepted false file code memory are here full =
    let counted : (0x10000 + code) / 4 - 0x4000 ≡ suc ((0x10000 + code) / 4 - 0x4001) = omega (arith, full) in
    rw (are, here, counted) refl

-- ---- the whole

written_accepted : (item_bytes : ℕ) (code memory : List ℕ) → IsItemSize item_bytes → 4 ≤ length code → length code ≤ 262144 → length memory ≤ 262144 → is_ok (image_of item_bytes (written_image 0x10000 (test_segments code memory))) ≡ true
written_accepted item_bytes code memory is full short few =
    let file = file_of code memory in
    let rest = behind code memory in
    let some = nat_lt 0 (length memory) in
    let form = file_is code memory in
    let long : length file ≡ 116 + length code + length memory = ap length (sym form) ∙ file_length code memory in
    let read = headers_are code memory short few in
    let are = loaded_are some file (length code) (length memory) read refl (omega (arith, full)) in
    let of_file = file_accepted file (no_more 0x400000 (length file) (omega (arith, long, short, few))) (elf_accepted rest (no_more (length file) 52 (omega (arith, long)))) (kind_accepted rest) (flags_accepted rest)
    (table_accepted file (fields rest).0 (fields rest).1 (fields rest).2 (omega (arith, long))) in
    let of_headers : headers_refusal (length file) [] (headers_of file) ≡ None = rw (long, read) (headers_accepted some (length code) (length memory) refl (omega (arith, full)) short few) in
    let of_sizes : sizes_refusal item_bytes (loaded_headers file) ≡ None = ap (sizes_refusal item_bytes) are ∙ sizes_accepted some item_bytes (length code) (length memory) is short few in
    ap (λ (f : List ℕ). is_ok (image_of item_bytes f)) form
    ∙ accepted item_bytes file of_file of_headers of_sizes (entry_accepted some file (length code) (length memory) are (entry_there code memory) full)

placed_accepted : (runs : Runs) (test : Test) (leaves item_bytes : ℕ) (places : List ℕ) → IsSound test → test.threads ≤ leaves → leaves ≤ 64 → IsItemSize item_bytes → is_ok (image_of item_bytes (placed_image runs test leaves item_bytes places)) ≡ true
unfolding placed_image
placed_accepted runs test leaves item_bytes places sound fewer few is =
    let code = image.code_bytes (code_of leaves places (blocks_of runs test item_bytes)) in
    let short = short_code leaves places runs test item_bytes sound few fewer in
    let full = some_code leaves places (blocks_of runs test item_bytes) in
    let small : item_bytes ≤ 64 = elim is as (λ h. item_bytes ≤ 64) [ inl e ↦ omega (arith, e) | inr e ↦ omega (arith, e) ] in
    written_accepted item_bytes code (memory_of test item_bytes) is full short (short_memory test item_bytes small sound.few)

by_places : (runs : Runs) (test : Test) (leaves item_bytes : ℕ) (judged : Result (List ℕ) ImageRefusal) (file : List ℕ) → IsSound test → leaves ≤ 64 → IsItemSize item_bytes
    → ((ps : List ℕ) → judged ≡ Ok ps → test.threads ≤ leaves) → image_at runs test leaves item_bytes judged ≡ Ok file → is_ok (image_of item_bytes file) ≡ true
by_places runs test leaves item_bytes (Err r) file sound few is fewer made = absurd (cc)
by_places runs test leaves item_bytes (Ok ps) file sound few is fewer made =
    let same : placed_image runs test leaves item_bytes ps ≡ file = cc in
    subst (λ (f : List ℕ). is_ok (image_of item_bytes f) ≡ true) same (placed_accepted runs test leaves item_bytes ps sound (fewer ps refl) few is)

pub assembled_images_load : AssembledImagesLoad
unfolding test_image
assembled_images_load runs test leaves item_bytes places file sound few is made =
    by_places runs test leaves item_bytes (places_of test.threads leaves places) file sound few is (λ ps judged. (placed test.threads leaves places ps judged).0) made
