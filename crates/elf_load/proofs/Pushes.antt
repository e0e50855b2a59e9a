-- Writing an image, one piece more at a time: what is written and what is left are the whole.
use Rattle.std.proofs.Common.{◌≡◌, ℕ, suc, ◌+◌, ◌*◌, ◌<◌, ◌≤◌, List, [], ◌∷◌, ◌++◌, length, drop, get_or, refl, sym, arith, add-one, append_assoc, length-append}
use Rattle.std.specs.List.{flat_map}
use Rattle.std.proofs.Math.Seq.{drop-cons}
use Rattle.std.proofs.Math.ListN.{drop_of_length-le}
use Rattle.std.proofs.lemmas.List.{append-nil}
use Rattle.byteorder.specs.Endian.{little_bytes}
use Rattle.tree_model.specs.Start.Sources.{SegmentValue}
use Rattle.elf_load.specs.Written.{halves, words, identity, file_header, program_header, program_headers, segment_bytes, written_image}

pub halves_next : (old ns : List ℕ) (k d : ℕ) → k < length ns → old ++ halves (drop k ns) ≡ (old ++ little_bytes 2 (get_or ns k d)) ++ halves (drop (k + 1) ns)
unfolding halves
halves_next old ns k d inside = rw (add-one, drop-cons ns k d inside) (sym (append_assoc old (little_bytes 2 (get_or ns k d)) (flat_map (little_bytes 2) (drop (suc k) ns))))

pub halves_done : (old ns : List ℕ) (k : ℕ) → length ns ≤ k → old ++ halves (drop k ns) ≡ old
unfolding halves
halves_done old ns k past = rw (drop_of_length-le ns past) (append-nil old)

pub words_next : (old ns : List ℕ) (k d : ℕ) → k < length ns → old ++ words (drop k ns) ≡ (old ++ little_bytes 4 (get_or ns k d)) ++ words (drop (k + 1) ns)
unfolding words
words_next old ns k d inside = rw (add-one, drop-cons ns k d inside) (sym (append_assoc old (little_bytes 4 (get_or ns k d)) (flat_map (little_bytes 4) (drop (suc k) ns))))

pub words_done : (old ns : List ℕ) (k : ℕ) → length ns ≤ k → old ++ words (drop k ns) ≡ old
unfolding words
words_done old ns k past = rw (drop_of_length-le ns past) (append-nil old)

pub file_header_is : (old : List ℕ) (entry count : ℕ) → (((old ++ identity) ++ halves (2 ∷ 243 ∷ [])) ++ words (1 ∷ entry ∷ 52 ∷ 0 ∷ 0 ∷ [])) ++ halves (52 ∷ 32 ∷ count ∷ 0 ∷ 0 ∷ 0 ∷ []) ≡ old ++ file_header entry count
unfolding file_header
file_header_is old entry count =
    let a = halves (2 ∷ 243 ∷ []) in
    let b = words (1 ∷ entry ∷ 52 ∷ 0 ∷ 0 ∷ []) in
    let c = halves (52 ∷ 32 ∷ count ∷ 0 ∷ 0 ∷ 0 ∷ []) in
    regroup old identity a b c where
      regroup : (o i a b c : List ℕ) → (((o ++ i) ++ a) ++ b) ++ c ≡ o ++ (i ++ a ++ b ++ c)
      regroup o i a b c = simp append_assoc

pub headers_next : (old : List ℕ) (offset : ℕ) (ss : List SegmentValue) (k : ℕ) (d : SegmentValue) → k < length ss
    → old ++ program_headers offset (drop k ss) ≡ (old ++ program_header offset (get_or ss k d)) ++ program_headers (offset + length (get_or ss k d).bytes) (drop (k + 1) ss)
unfolding program_headers
headers_next old offset ss k d inside =
    rw (add-one, drop-cons ss k d inside) (sym (append_assoc old (program_header offset (get_or ss k d)) (program_headers (offset + length (get_or ss k d).bytes) (drop (suc k) ss))))

pub headers_done : (old : List ℕ) (offset : ℕ) (ss : List SegmentValue) (k : ℕ) → length ss ≤ k → old ++ program_headers offset (drop k ss) ≡ old
unfolding program_headers
headers_done old offset ss k past = rw (drop_of_length-le ss past) (append-nil old)

pub bytes_next : (ss : List SegmentValue) (k : ℕ) (d : SegmentValue) → k < length ss → length (segment_bytes (drop k ss)) ≡ length (get_or ss k d).bytes + length (segment_bytes (drop (k + 1) ss))
unfolding segment_bytes
bytes_next ss k d inside = rw (add-one, drop-cons ss k d inside) (length-append (get_or ss k d).bytes (segment_bytes (drop (suc k) ss)))

pub segments_next : (old : List ℕ) (ss : List SegmentValue) (k : ℕ) (d : SegmentValue) → k < length ss → old ++ segment_bytes (drop k ss) ≡ (old ++ (get_or ss k d).bytes) ++ segment_bytes (drop (k + 1) ss)
unfolding segment_bytes
segments_next old ss k d inside = rw (add-one, drop-cons ss k d inside) (sym (append_assoc old (get_or ss k d).bytes (segment_bytes (drop (suc k) ss))))

pub segments_done : (old : List ℕ) (ss : List SegmentValue) (k : ℕ) → length ss ≤ k → old ++ segment_bytes (drop k ss) ≡ old
unfolding segment_bytes
segments_done old ss k past = rw (drop_of_length-le ss past) (append-nil old)

-- ---- lengths

length-words : (ns : List ℕ) → length (words ns) ≡ 4 * length ns
unfolding words
length-words [] = refl
length-words (n ∷ ns) =
    let rest = length-words ns in
    rw (length-append (little_bytes 4 n) (words ns), rest) (omega arith)

length-halves : (ns : List ℕ) → length (halves ns) ≡ 2 * length ns
unfolding halves
length-halves [] = refl
length-halves (n ∷ ns) =
    let rest = length-halves ns in
    rw (length-append (little_bytes 2 n) (halves ns), rest) (omega arith)

pub length-program_header : (offset : ℕ) (s : SegmentValue) → length (program_header offset s) ≡ 32
unfolding program_header
length-program_header offset s = length-words (1 ∷ offset ∷ s.vaddr ∷ s.vaddr ∷ length s.bytes ∷ s.memsz ∷ s.flags ∷ 1 ∷ [])

pub length-program_headers : (offset : ℕ) (ss : List SegmentValue) → length (program_headers offset ss) ≡ 32 * length ss
unfolding program_headers
length-program_headers offset [] = refl
length-program_headers offset (s ∷ ss) =
    let rest = length-program_headers (offset + length s.bytes) ss in
    rw (length-append (program_header offset s) (program_headers (offset + length s.bytes) ss), length-program_header offset s, rest) (omega arith)

pub length-file_header : (entry count : ℕ) → length (file_header entry count) ≡ 52
unfolding file_header
length-file_header entry count =
    let a = length-halves (2 ∷ 243 ∷ []) in
    let b = length-words (1 ∷ entry ∷ 52 ∷ 0 ∷ 0 ∷ []) in
    let c = length-halves (52 ∷ 32 ∷ count ∷ 0 ∷ 0 ∷ 0 ∷ []) in
    rw (length-append, length-append, length-append, a, b, c) refl

pub room_for_bytes : (entry : ℕ) (ss : List SegmentValue) → length (written_image entry ss) ≡ 52 + 32 * length ss + length (segment_bytes ss)
unfolding written_image
room_for_bytes entry ss =
    let a = length-file_header entry (length ss) in
    let b = length-program_headers (52 + 32 * length ss) ss in
    rw (length-append, length-append, a, b) refl
