-- Each instruction of a listing is at its place in the machine's code.
-- Letters: s is a segment, w a word.
use Rattle.std.proofs.Common.{◌≡◌, ℕ, zero, suc, ◌+◌, ◌*◌, ◌-◌, ◌/◌, ◌<◌, ◌≤◌, Bool, true, false, nat_eq, List, [], ◌∷◌, ◌++◌, length, map, drop, Some, Ok, refl, sym, ap, subst, ◌∙◌, arith, inl, inr}
use Rattle.std.specs.Prelude.{All, nat_lt, slice_get, if◌then◌else◌}
use Rattle.std.specs.List.{range_with_len}
use Rattle.std.proofs.lemmas.Bool.{eq-eqb, ne_eqb}
use Rattle.std.proofs.lemmas.Bool.Decides.{nat_tests}
use Rattle.std.proofs.lemmas.List.Elements.{All-append, All-cons, All-head, All-nil, All-tail}
use Rattle.byteorder.specs.Endian.{little_bytes, little_number}
use Rattle.byteorder.specs.Numbers.{little_number-reads_back}
use Rattle.rv_decode.specs.declared.instructions.Instr.{Instr}
use Rattle.rv_decode.specs.Encode.{encode_of}
use Rattle.rv_decode.specs.Valid.{IsValid}
use Rattle.elf_load.specs.DdmTypes.CodeMap.{CodeWord, word_at, words_from}
use Rattle.elf_load.specs.DdmTypes.ItemTable.{IsItemSize}
use Rattle.elf_load.specs.ElfFile.{image_of, word_in}
use Rattle.elf_load.specs.ImageRule.{image_value}
use Rattle.elf_load.specs.LoadsBack.{HasWords, IsWritable, loaded_back}
use Rattle.elf_load.specs.TreeModel.Start.Memory.{memory_word, segment_code, start_code}
use Rattle.elf_load.specs.TreeModel.Start.Sources.{ImageValue, SegmentValue}
use Rattle.elf_load.specs.Written.{written_image}
use Rattle.elf_load.proofs.ReadBack.{loads_back}
use Rattle.elf_load.proofs.SegmentBytes.{own_word}
use Rattle.litmus_model.specs.declared.test.Runs.{Runs}
use Rattle.litmus_model.specs.Image.{begins_from, blocks_of, code_bytes, code_of, image_at, jump_by_number, leaf_word, memory_of, placed_image, test_image, test_segments}
use Rattle.litmus_model.specs.Sound.{IsSound}
use Rattle.litmus_model.specs.Test.{Test}
use Rattle.litmus_image.specs.Made.{all_of, leaf_words}
use Rattle.litmus_image.proofs.Blocks.{near_begins}
use Rattle.litmus_image.proofs.Bytes.{placed, room, short_code, short_memory, some_code, two_segments}
use Rattle.litmus_image.proofs.Valid.{valid_blocks, valid_jump, valid_leaves}
use Rattle.litmus_code.specs.Laws.{CodeIsThere}
use Rattle.litmus_code.proofs.WordsFit.{word-fits}

-- ---- the bytes of a listing

record BytesAt (bytes : List ℕ) (place w : ℕ) : Type 0 where
  rest : List ℕ
  are : drop place bytes ≡ little_bytes 4 w ++ rest

bytes-at : (is : List Instr) (k : ℕ) (x : Instr) → slice_get is k ≡ Some x → BytesAt (code_bytes is) (4 * k) (encode_of x)
unfolding code_bytes
bytes-at [] k x is = absurd (let wrong : ⊥ = cc in wrong)
bytes-at (i ∷ is) zero x is_x =
    let same : i ≡ x = cc in
    record { rest = code_bytes is; are = ap (λ (j : Instr). little_bytes 4 (encode_of j) ++ code_bytes is) same }
bytes-at (i ∷ is) (suc k) x is_x =
    let next = bytes-at is k x is_x in
    let places : 4 * suc k ≡ suc (suc (suc (suc (4 * k)))) = omega arith in
    record { rest = next.rest; are = rw places next.are }

-- the word of an instruction among the bytes
listed-word : (is : List Instr) (k : ℕ) (x : Instr) → slice_get is k ≡ Some x → IsValid x → word_in (code_bytes is) (4 * k) ≡ encode_of x
listed-word is k x is_x valid =
    let at = bytes-at is k x is_x in
    ap (little_number 4) at.are ∙ little_number-reads_back 4 (encode_of x) at.rest (word-fits x valid)

-- ---- a word of a segment's code

words-at : (a k : ℕ) (ws : List ℕ) (w : ℕ) (rest : List CodeWord) → slice_get ws k ≡ Some w → word_at (words_from a ws ++ rest) (a + 4 * k) ≡ Some w
unfolding word_at words_from
words-at a k [] w rest is = absurd (let wrong : ⊥ = cc in wrong)
words-at a zero (v ∷ ws) w rest is =
    let same : v ≡ w = cc in
    let here : nat_eq a (a + 4 * 0) ≡ true = eq-eqb _ _ (omega arith) in
    rw here (ap (λ (n : ℕ). Some n) same)
words-at a (suc k) (v ∷ ws) w rest is =
    let elsewhere : nat_eq a (a + 4 * suc k) ≡ false = ne_eqb _ _ (λ same. omega (arith, same)) in
    let next : a + 4 * suc k ≡ a + 4 + 4 * k = omega arith in
    rw elsewhere (ap (word_at (words_from (a + 4) ws ++ rest)) next ∙ words-at (a + 4) k ws w rest is)

numbers-at : (f : ℕ → ℕ) (n count k : ℕ) → k < count → slice_get (map f (range_with_len n count)) k ≡ Some (f (n + k))
numbers-at f n zero k inside = absurd (omega (arith, inside))
numbers-at f n (suc count) zero inside = ap (λ (j : ℕ). Some (f j)) (let e : n ≡ n + 0 = omega arith in e)
numbers-at f n (suc count) (suc k) inside =
    let e : n + 1 + k ≡ n + suc k = omega arith in
    numbers-at f (n + 1) count k (omega (arith, inside)) ∙ ap (λ (j : ℕ). Some (f j)) e

-- ---- the segments

abbrev code_segment : List ℕ → SegmentValue
code_segment bytes = record { header = 0; vaddr = 0x10000; flags = 5; bytes = bytes; memsz = length bytes }

abbrev memory_segment : List ℕ → SegmentValue
memory_segment bytes = record { header = 1; vaddr = 0x200000; flags = 6; bytes = bytes; memsz = length bytes }

segments-back : (some : Bool) (bytes memory : List ℕ) → 0 < length bytes → nat_lt 0 (length memory) ≡ some
    → loaded_back (test_segments bytes memory) ≡ code_segment bytes ∷ (if some then memory_segment memory ∷ [] else [])
unfolding test_segments
segments-back true bytes memory full is = let here : nat_lt 0 (length bytes) ≡ true = grind (arith, nat_tests) in rw (here, is) refl
segments-back false bytes memory full is = let here : nat_lt 0 (length bytes) ≡ true = grind (arith, nat_tests) in rw (here, is) refl

code-back : (some : Bool) (bytes memory : List ℕ) → start_code (image_value 0x10000 (code_segment bytes ∷ (if some then memory_segment memory ∷ [] else []))) ≡ segment_code (code_segment bytes) ++ []
unfolding start_code
code-back true bytes memory = refl
code-back false bytes memory = refl

-- ---- the machine's code

there : (is : List Instr) (k : ℕ) (x : Instr) → slice_get is k ≡ Some x → IsValid x → 4 * k + 4 ≤ length (code_bytes is)
    → word_at (segment_code (code_segment (code_bytes is)) ++ []) (0x10000 + 4 * k) ≡ Some (encode_of x)
there is k x is_x valid inside =
    let bytes = code_bytes is in
    let s = code_segment bytes in
    let f : ℕ → ℕ = λ n. memory_word (s ∷ []) (4 * n) in
    let word : f (0x4000 + k) ≡ encode_of x =
    sym (own_word s (4 * (0x4000 + k)) (omega arith) (omega (arith, inside))) ∙ ap (word_in bytes) (let e : 4 * (0x4000 + k) - 0x10000 ≡ 4 * k = omega arith in e) ∙ listed-word is k x is_x valid in
    let listed : slice_get (map f (range_with_len 0x4000 ((0x10000 + length bytes) / 4 - 0x4000))) k ≡ Some (encode_of x) =
    numbers-at f 0x4000 ((0x10000 + length bytes) / 4 - 0x4000) k (omega (arith, inside)) ∙ ap (λ (n : ℕ). Some n) word in
    words-at 0x10000 k (map f (range_with_len 0x4000 ((0x10000 + length bytes) / 4 - 0x4000))) (encode_of x) [] listed

have-words : (bytes memory : List ℕ) → length bytes ≤ 262144 → length memory ≤ 262144 → All HasWords (test_segments bytes memory)
unfolding test_segments
have-words bytes memory short few =
    All-cons HasWords (code_segment bytes) (memory_segment memory ∷ []) (record { vaddr = omega arith; flags = omega arith; memsz = omega (arith, short) })
    (All-cons HasWords (memory_segment memory) [] (record { vaddr = omega arith; flags = omega arith; memsz = omega (arith, few) }) (All-nil HasWords))

listed-there : (item_bytes : ℕ) (is : List Instr) (memory : List ℕ) (image : ImageValue) (k : ℕ) (x : Instr)
    → length (code_bytes is) ≤ 262144 → length memory ≤ 262144 → 4 ≤ length (code_bytes is)
    → image_of item_bytes (written_image 0x10000 (test_segments (code_bytes is) memory)) ≡ Ok image
    → slice_get is k ≡ Some x → IsValid x → 4 * k + 4 ≤ length (code_bytes is)
    → word_at (start_code image) (0x10000 + 4 * k) ≡ Some (encode_of x)
listed-there item_bytes is memory image k x short few full loads is_x valid inside =
    let bytes = code_bytes is in
    let words : All HasWords (test_segments bytes memory) = have-words bytes memory short few in
    let writable : IsWritable 0x10000 (test_segments bytes memory) = record { small = omega arith; few = two_segments bytes memory; words = words; short = room bytes memory short few } in
    let back : image ≡ image_value 0x10000 (loaded_back (test_segments bytes memory)) = loads_back item_bytes 0x10000 (test_segments bytes memory) image writable loads in
    let some = nat_lt 0 (length memory) in
    let segments = segments-back some bytes memory (omega (arith, full)) refl in
    let code : start_code image ≡ segment_code (code_segment bytes) ++ [] = ap start_code (back ∙ ap (image_value 0x10000) segments) ∙ code-back some bytes memory in
    ap (λ (c : List CodeWord). word_at c (0x10000 + 4 * k)) code ∙ there is k x is_x valid inside

-- ---- the listing of a test

listing-valid : (runs : Runs) (test : Test) (leaves item_bytes : ℕ) (places : List ℕ) → IsSound test → test.threads ≤ leaves → leaves ≤ 64 → All IsValid (code_of leaves places (blocks_of runs test item_bytes))
unfolding code_of leaf_words
listing-valid runs test leaves item_bytes places sound fewer few =
    let begins = begins_from (4 + leaves) (blocks_of runs test item_bytes) in
    let near = near_begins (4 + leaves) runs test item_bytes sound (omega (arith, fewer, few)) (omega (arith, few)) in
    All-append IsValid jump_by_number (map (leaf_word places begins) (range_with_len 0 leaves) ++ all_of (blocks_of runs test item_bytes)) valid_jump
    (All-append IsValid (map (leaf_word places begins) (range_with_len 0 leaves)) (all_of (blocks_of runs test item_bytes)) (valid_leaves places begins leaves few near) (valid_blocks runs test item_bytes sound))

length-bytes : (is : List Instr) → length (code_bytes is) ≡ 4 * length is
unfolding code_bytes
length-bytes [] = refl
length-bytes (i ∷ is) = let rest = length-bytes is in omega (arith, rest)

record Placed (is : List Instr) (k : ℕ) (x : Instr) : Type 0 where
  valid : IsValid x
  inside : k < length is

placed-in : (is : List Instr) (k : ℕ) (x : Instr) → All IsValid is → slice_get is k ≡ Some x → Placed is k x
placed-in [] k x all is_x = absurd (let wrong : ⊥ = cc in wrong)
placed-in (i ∷ is) zero x all is_x =
    let same : i ≡ x = cc in
    record { valid = subst IsValid same (All-head IsValid i is all); inside = omega arith }
placed-in (i ∷ is) (suc k) x all is_x =
    let next = placed-in is k x (All-tail IsValid i is all) is_x in
    record { valid = next.valid; inside = (let e = next.inside in omega (arith, e)) }

by-places : (runs : Runs) (test : Test) (leaves item_bytes : ℕ) (places file : List ℕ) (image : ImageValue)
    → IsSound test → test.threads ≤ leaves → leaves ≤ 64 → IsItemSize item_bytes → placed_image runs test leaves item_bytes places ≡ file → image_of item_bytes file ≡ Ok image
    → (k : ℕ) (x : Instr) → slice_get (code_of leaves places (blocks_of runs test item_bytes)) k ≡ Some x
    → word_at (start_code image) (0x10000 + 4 * k) ≡ Some (encode_of x)
unfolding placed_image
by-places runs test leaves item_bytes places file image sound fewer few size made loads k x is_x =
    let listing = code_of leaves places (blocks_of runs test item_bytes) in
    let small : item_bytes ≤ 64 = elim size as (λ h. item_bytes ≤ 64) [ inl e ↦ omega (arith, e) | inr e ↦ omega (arith, e) ] in
    let at = placed-in listing k x (listing-valid runs test leaves item_bytes places sound fewer few) is_x in
    let long = length-bytes listing in
    let end : 4 * k + 4 ≤ length (code_bytes listing) = (let e = at.inside in omega (arith, e, long)) in
    listed-there item_bytes listing (memory_of test item_bytes) image k x (short_code leaves places runs test item_bytes sound few fewer) (short_memory test item_bytes small sound.few) (some_code leaves places (blocks_of runs test item_bytes))
    (ap (image_of item_bytes) made ∙ loads) is_x at.valid end

pub code-is-there : CodeIsThere
unfolding test_image
code-is-there runs test leaves item_bytes named places file image sound few size are made loads k x is_x =
    let fewer = (placed test.threads leaves named places are).0 in
    let image_is : image_at runs test leaves item_bytes (Ok places) ≡ Ok file = subst (λ judged. image_at runs test leaves item_bytes judged ≡ Ok file) are made in
    let same : placed_image runs test leaves item_bytes places ≡ file = cc in
    by-places runs test leaves item_bytes places file image sound fewer few size same loads k x is_x
