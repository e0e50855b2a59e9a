-- Reading what was written.
use Rattle.std.proofs.Common.{◌≡◌, ℕ, zero, suc, ◌+◌, ◌*◌, ◌^◌, ◌<◌, List, [], ◌∷◌, ◌++◌, map, length, take, drop, get_or, Option, Some, None, Ok, refl, sym, ap, ◌∙◌, arith, All, append_assoc, length-append, inl, inr}
use Rattle.std.specs.Prelude.{filter, nat_lt}
use Rattle.std.specs.List.{range_with_len}
use Rattle.std.proofs.lemmas.Bool.{cases_Bool}
use Rattle.std.proofs.lemmas.List.{drop-drop}
use Rattle.std.proofs.Math.Seq.{drop-append_seam, take-append_seam}
use Rattle.std.proofs.lemmas.List.Elements.{All-head, All-tail}
use Rattle.byteorder.specs.Endian.{little_number}
use Rattle.byteorder.specs.Numbers.{little_number-reads_back}
use Rattle.tree_model.specs.Start.Sources.{SegmentValue, ImageValue}
use Rattle.elf_load.specs.declared.headers.ProgramHeader.{ProgramHeader}
use Rattle.elf_load.specs.declared.refusal.ImageRefusal.{ImageRefusal}
use Rattle.elf_load.specs.ElfFile.{word_in, entry_of, table_of, header_count, header_place, header_at, headers_of, has_memory, loaded_headers, segment_of, segments_of, image_in, image_of, by_file, by_headers, unless_too_large, by_entry, judged_entry, entry_refusal, file_refusal, headers_refusal, sizes_refusal}
use Rattle.elf_load.specs.ImageRule.{image_value}
use Rattle.elf_load.specs.Written.{halves, words, file_header, program_header, program_headers, segment_bytes, written_image}
use Rattle.elf_load.specs.LoadsBack.{HasWords, numbered_from, has_size, loaded_back, LoadsBack}
use Rattle.elf_load.proofs.Pushes.{length-file_header, length-program_headers, length-program_header, room_for_bytes}

-- ---- only the file's own image is accepted

accepted : (item_bytes : ℕ) (file : List ℕ) (image : ImageValue) → image_of item_bytes file ≡ Ok image → image ≡ image_in file
unfolding image_of judged_entry
accepted item_bytes file image e = by_first (file_refusal file) refl where
  of_entry : (o : Option ImageRefusal) → by_entry o (image_in file) ≡ Ok image → image ≡ image_in file
  of_entry None h = cc
  of_entry (Some r) h = cc

  of_sizes : (o : Option ImageRefusal) → unless_too_large o file ≡ Ok image → image ≡ image_in file
  of_sizes None h = of_entry (entry_refusal (image_in file)) h
  of_sizes (Some r) h = cc

  of_headers : (o : Option ImageRefusal) → by_headers o item_bytes file ≡ Ok image → image ≡ image_in file
  of_headers None h = of_sizes (sizes_refusal item_bytes (loaded_headers file)) h
  of_headers (Some r) h = cc

  of_file : (o : Option ImageRefusal) → by_file o item_bytes file ≡ Ok image → image ≡ image_in file
  of_file None h = of_headers (headers_refusal (length file) [] (headers_of file)) h
  of_file (Some r) h = cc

  by_first : (o : Option ImageRefusal) → file_refusal file ≡ o → image ≡ image_in file
  by_first o same = of_file (file_refusal file) e

-- ---- words

-- the word with this number is the one that was written there
word_back : (ns rest : List ℕ) (i d : ℕ) → i < length ns → get_or ns i d < 2 ^ 32 → little_number 4 (drop (4 * i) (words ns ++ rest)) ≡ get_or ns i d
unfolding words
word_back [] rest i d inside small = absurd (omega arith)
word_back (n ∷ ns) rest zero d inside small =
    little_number-reads_back 4 n (words ns ++ rest) small
word_back (n ∷ ns) rest (suc i) d inside small =
    let place : 4 * suc i ≡ suc (suc (suc (suc (4 * i)))) = omega arith in
    rw place (word_back ns rest i d (omega arith) small)

half_back : (ns rest : List ℕ) (i d : ℕ) → i < length ns → get_or ns i d < 2 ^ 16 → little_number 2 (drop (2 * i) (halves ns ++ rest)) ≡ get_or ns i d
unfolding halves
half_back [] rest i d inside small = absurd (omega arith)
half_back (n ∷ ns) rest zero d inside small =
    little_number-reads_back 2 n (halves ns ++ rest) small
half_back (n ∷ ns) rest (suc i) d inside small =
    let place : 2 * suc i ≡ suc (suc (2 * i)) = omega arith in
    rw place (half_back ns rest i d (omega arith) small)

-- ---- the ELF header

-- behind the identity there are half words, words and half words
header_forms : (entry count : ℕ) (rest : List ℕ) → (drop 24 (file_header entry count ++ rest) ≡ drop 4 (words (1 ∷ entry ∷ 52 ∷ 0 ∷ 0 ∷ []) ++ (halves (52 ∷ 32 ∷ count ∷ 0 ∷ 0 ∷ 0 ∷ []) ++ rest)))
unfolding file_header halves words
header_forms entry count rest = refl

table_forms : (entry count : ℕ) (rest : List ℕ) → drop 28 (file_header entry count ++ rest) ≡ drop 8 (words (1 ∷ entry ∷ 52 ∷ 0 ∷ 0 ∷ []) ++ (halves (52 ∷ 32 ∷ count ∷ 0 ∷ 0 ∷ 0 ∷ []) ++ rest))
unfolding file_header halves words
table_forms entry count rest = refl

count_forms : (entry count : ℕ) (rest : List ℕ) → drop 44 (file_header entry count ++ rest) ≡ drop 4 (halves (52 ∷ 32 ∷ count ∷ 0 ∷ 0 ∷ 0 ∷ []) ++ rest)
unfolding file_header halves words
count_forms entry count rest = refl

entry_back : (entry count : ℕ) (rest : List ℕ) → entry < 2 ^ 32 → entry_of (file_header entry count ++ rest) ≡ entry
entry_back entry count rest small =
    ap (little_number 4) (header_forms entry count rest) ∙ word_back (1 ∷ entry ∷ 52 ∷ 0 ∷ 0 ∷ []) (halves (52 ∷ 32 ∷ count ∷ 0 ∷ 0 ∷ 0 ∷ []) ++ rest) 1 0 (omega arith) small

table_back : (entry count : ℕ) (rest : List ℕ) → table_of (file_header entry count ++ rest) ≡ 52
table_back entry count rest =
    ap (little_number 4) (table_forms entry count rest) ∙ word_back (1 ∷ entry ∷ 52 ∷ 0 ∷ 0 ∷ []) (halves (52 ∷ 32 ∷ count ∷ 0 ∷ 0 ∷ 0 ∷ []) ++ rest) 2 0 (omega arith) (omega arith)

count_back : (entry count : ℕ) (rest : List ℕ) → count < 2 ^ 16 → header_count (file_header entry count ++ rest) ≡ count
count_back entry count rest small =
    ap (little_number 2) (count_forms entry count rest) ∙ half_back (52 ∷ 32 ∷ count ∷ 0 ∷ 0 ∷ 0 ∷ []) rest 2 0 (omega arith) small

-- ---- program headers

-- the header that is written for a segment whose bytes begin at this offset
abbrev header_for : ℕ → ℕ → SegmentValue → ProgramHeader
header_for k offset s = record { number = k; kind = 1; offset = offset; vaddr = s.vaddr; filesz = length s.bytes; memsz = s.memsz; flags = s.flags }

abbrev segment_with : ℕ → SegmentValue → List ℕ → SegmentValue
segment_with k s bytes = record { header = k; vaddr = s.vaddr; flags = s.flags; bytes = bytes; memsz = s.memsz }

abbrev headers_for : ℕ → ℕ → List SegmentValue → List ProgramHeader
headers_for k offset [] = []
headers_for k offset (s ∷ ss) = header_for k offset s ∷ headers_for (k + 1) (offset + length s.bytes) ss

abbrev header_words : ℕ → SegmentValue → List ℕ
header_words offset s = 1 ∷ offset ∷ s.vaddr ∷ s.vaddr ∷ length s.bytes ∷ s.memsz ∷ s.flags ∷ 1 ∷ []

field_back : (offset : ℕ) (s : SegmentValue) (file rest : List ℕ) (place at i : ℕ) → drop place file ≡ program_header offset s ++ rest → at ≡ place + 4 * i → i < 8 → get_or (header_words offset s) i 0 < 2 ^ 32
    → word_in file at ≡ get_or (header_words offset s) i 0
unfolding program_header
field_back offset s file rest place at i here e inside small =
    let behind : drop at file ≡ drop (4 * i) (words (header_words offset s) ++ rest) = ap (λ (p : ℕ). drop p file) e ∙ sym (drop-drop (4 * i) place file) ∙ ap (λ (l : List ℕ). drop (4 * i) l) here in
    ap (little_number 4) behind ∙ word_back (header_words offset s) rest i 0 inside small

abbrev header_with : ℕ → ℕ → ℕ → ℕ → ℕ → ℕ → ℕ → ProgramHeader
header_with number kind offset vaddr filesz memsz flags = record { number = number; kind = kind; offset = offset; vaddr = vaddr; filesz = filesz; memsz = memsz; flags = flags }

same_header : (k a b c d e f a' b' c' d' e' f' : ℕ) → a ≡ a' → b ≡ b' → c ≡ c' → d ≡ d' → e ≡ e' → f ≡ f' → header_with k a b c d e f ≡ header_with k a' b' c' d' e' f'
same_header k a b c d e f a' b' c' d' e' f' p q r t u v = rw (p, q, r, t, u, v) refl

header_back : (k offset : ℕ) (s : SegmentValue) (file rest : List ℕ) → table_of file ≡ 52 → drop (52 + 32 * k) file ≡ program_header offset s ++ rest → HasWords s → offset < 2 ^ 32 → length s.bytes < 2 ^ 32 → header_at file k ≡ header_for k offset s
header_back k offset s file rest table here has small bytes =
    let place = 52 + 32 * k in
    let at : header_place file k ≡ 52 + 32 * k = ap (λ (n : ℕ). n + 32 * k) table in
    same_header k _ _ _ _ _ _ 1 offset s.vaddr (length s.bytes) s.memsz s.flags
    (field_back offset s file rest place (header_place file k) 0 here (at ∙ omega arith) (omega arith) (omega arith))
    (field_back offset s file rest place (header_place file k + 4) 1 here (ap (λ (n : ℕ). n + 4) at) (omega arith) small)
    (field_back offset s file rest place (header_place file k + 8) 2 here (ap (λ (n : ℕ). n + 8) at) (omega arith) has.vaddr)
    (field_back offset s file rest place (header_place file k + 16) 4 here (ap (λ (n : ℕ). n + 16) at) (omega arith) bytes)
    (field_back offset s file rest place (header_place file k + 20) 5 here (ap (λ (n : ℕ). n + 20) at) (omega arith) has.memsz)
    (field_back offset s file rest place (header_place file k + 24) 6 here (ap (λ (n : ℕ). n + 24) at) (omega arith) has.flags)

segment_bytes-cons : (s : SegmentValue) (ss : List SegmentValue) → segment_bytes (s ∷ ss) ≡ s.bytes ++ segment_bytes ss
unfolding segment_bytes
segment_bytes-cons s ss = refl

program_headers-cons : (offset : ℕ) (s : SegmentValue) (ss : List SegmentValue) → program_headers offset (s ∷ ss) ≡ program_header offset s ++ program_headers (offset + length s.bytes) ss
unfolding program_headers
program_headers-cons offset s ss = refl

-- what lies behind a list in front
behind_front : (n m : ℕ) (file front rest : List ℕ) → drop n file ≡ front ++ rest → m ≡ n + length front → drop m file ≡ rest
behind_front n m file front rest here e =
    ap (λ (p : ℕ). drop p file) e ∙ sym (drop-drop (length front) n file) ∙ ap (λ (l : List ℕ). drop (length front) l) here ∙ drop-append_seam front rest

headers_back : (file : List ℕ) (k offset : ℕ) (ss : List SegmentValue) (rest : List ℕ) → table_of file ≡ 52 → drop (52 + 32 * k) file ≡ program_headers offset ss ++ rest → All HasWords ss → offset + length (segment_bytes ss) < 2 ^ 32
    → map (header_at file) (range_with_len k (length ss)) ≡ headers_for k offset ss
headers_back file k offset [] rest table here has short = refl
headers_back file k offset (s ∷ ss) rest table here has short =
    let sized : length (segment_bytes (s ∷ ss)) ≡ length s.bytes + length (segment_bytes ss) = ap length (segment_bytes-cons s ss) ∙ length-append s.bytes (segment_bytes ss) in
    let tail = program_headers (offset + length s.bytes) ss in
    let split : drop (52 + 32 * k) file ≡ program_header offset s ++ (tail ++ rest) = here ∙ ap (λ (l : List ℕ). l ++ rest) (program_headers-cons offset s ss) ∙ append_assoc (program_header offset s) tail rest in
    let size = length-program_header offset s in
    let next : drop (52 + 32 * (k + 1)) file ≡ tail ++ rest = behind_front (52 + 32 * k) (52 + 32 * (k + 1)) file (program_header offset s) (tail ++ rest) split (omega (arith, size)) in
    let first = header_back k offset s file (tail ++ rest) table split (All-head HasWords s ss has) (omega (arith, sized)) (omega (arith, sized)) in
    let others = headers_back file (k + 1) (offset + length s.bytes) ss rest table next (All-tail HasWords s ss has) (omega (arith, sized)) in
    both first others where
      both : {h g : ProgramHeader} {hs gs : List ProgramHeader} → h ≡ g → hs ≡ gs → h ∷ hs ≡ g ∷ gs
      both p q = cc

-- ---- segments

segments_back : (file : List ℕ) (k offset : ℕ) (ss : List SegmentValue) → drop offset file ≡ segment_bytes ss → map (segment_of file) (filter has_memory (headers_for k offset ss)) ≡ filter has_size (numbered_from k ss)
segments_back file k offset [] here = refl
segments_back file k offset (s ∷ ss) here =
    let split : drop offset file ≡ s.bytes ++ segment_bytes ss = here ∙ segment_bytes-cons s ss in
    let next = behind_front offset (offset + length s.bytes) file s.bytes (segment_bytes ss) split refl in
    let rest = segments_back file (k + 1) (offset + length s.bytes) ss next in
    let own : take (length s.bytes) (drop offset file) ≡ s.bytes = ap (λ (l : List ℕ). take (length s.bytes) l) split ∙ take-append_seam s.bytes (segment_bytes ss) in
    elim (cases_Bool (nat_lt 0 s.memsz)) [
      | inl e ↦ rw e (both own rest)
      | inr e ↦ rw e rest
    ] where
      both : {b c : List ℕ} {hs gs : List SegmentValue} → b ≡ c → hs ≡ gs → segment_with k s b ∷ hs ≡ segment_with k s c ∷ gs
      both p q = cc

-- ---- the whole

loaded_in : (file : List ℕ) → segments_of file (loaded_headers file) ≡ map (segment_of file) (filter has_memory (map (header_at file) (range_with_len 0 (header_count file))))
unfolding segments_of loaded_headers headers_of
loaded_in file = refl

image_in-is : (file : List ℕ) → image_in file ≡ image_value (entry_of file) (segments_of file (loaded_headers file))
unfolding image_in
image_in-is file = refl

written-is : (entry : ℕ) (ss : List SegmentValue) → written_image entry ss ≡ file_header entry (length ss) ++ (program_headers (52 + 32 * length ss) ss ++ segment_bytes ss)
unfolding written_image
written-is entry ss = append_assoc (file_header entry (length ss)) (program_headers (52 + 32 * length ss) ss) (segment_bytes ss)

pub loads_back : LoadsBack
loads_back item_bytes entry ss image may accepts =
    let n = length ss in
    let file = written_image entry ss in
    let headers = program_headers (52 + 32 * n) ss in
    let bytes = segment_bytes ss in
    let form = written-is entry ss in
    let entry_is : entry_of file ≡ entry = ap entry_of form ∙ entry_back entry n (headers ++ bytes) may.small in
    let table_is : table_of file ≡ 52 = ap table_of form ∙ table_back entry n (headers ++ bytes) in
    let few = may.few in
    let count_is : header_count file ≡ n = ap header_count form ∙ count_back entry n (headers ++ bytes) (omega (arith, few)) in
    let size = room_for_bytes entry ss in
    let short = may.short in
    let first = length-file_header entry n in
    let second = length-program_headers (52 + 32 * n) ss in
    let behind : drop 52 file ≡ headers ++ bytes = behind_front 0 52 file (file_header entry n) (headers ++ bytes) form (omega (arith, first)) in
    let last : drop (52 + 32 * n) file ≡ bytes = behind_front 52 (52 + 32 * n) file headers bytes behind (omega (arith, second)) in
    let read = headers_back file 0 (52 + 32 * n) ss bytes table_is behind may.words (omega (arith, size, short)) in
    let segments = segments_back file 0 (52 + 32 * n) ss last in
    let all : segments_of file (loaded_headers file) ≡ loaded_back ss =
    loaded_in file ∙
    ap (λ (m : ℕ). map (segment_of file) (filter has_memory (map (header_at file) (range_with_len 0 m)))) count_is ∙
    ap (λ (hs : List ProgramHeader). map (segment_of file) (filter has_memory hs)) read ∙
    segments in
    accepted item_bytes file image accepts ∙ image_in-is file ∙ ap (λ (e : ℕ). image_value e (segments_of file (loaded_headers file))) entry_is ∙ ap (λ (l : List SegmentValue). image_value entry l) all
