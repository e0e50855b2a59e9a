-- Bytes and words of one segment.
use Rattle.std.proofs.Common.{◌≡◌, ℕ, ◌+◌, ◌*◌, ◌-◌, ◌<◌, ◌≤◌, true, [], ◌∷◌, ◌++◌, get_or, drop, refl, sym, ap, ◌∙◌, arith}
use Rattle.std.specs.Prelude.{slice_index_or, nat_le, nat_lt, ◌&&◌}
use Rattle.std.proofs.lemmas.Bool.Decides.{nat_tests}
use Rattle.std.proofs.lemmas.List.{get_or-drop}
use Rattle.std.proofs.lemmas.List.FromFn.{map-range_with_len_more}
use Rattle.tree_model.specs.Start.Sources.{SegmentValue}
use Rattle.tree_model.specs.Start.Memory.{byte_at, first_word, memory_word}
use Rattle.elf_load.specs.CodeOf.{file_word_count, first_offset, first_words, numbered_word}
use Rattle.elf_load.specs.ElfFile.{word_in}

-- a byte of the segment's memory is the file's byte, or 0 behind these
pub own_byte : (s : SegmentValue) (a : ℕ) → s.vaddr ≤ a → a < s.vaddr + s.memsz → byte_at (s ∷ []) a ≡ slice_index_or s.bytes (a - s.vaddr) 0
unfolding byte_at
own_byte s a above below =
    let here : (nat_le s.vaddr a && nat_lt a (s.vaddr + s.memsz)) ≡ true = grind (arith, nat_tests) in
    rw here refl

-- a byte so many places behind the byte at a
byte_behind : (s : SegmentValue) (a i : ℕ) → s.vaddr ≤ a → a + i < s.vaddr + s.memsz → byte_at (s ∷ []) (a + i) ≡ get_or (drop (a - s.vaddr) s.bytes) i 0
byte_behind s a i above below =
    let place : a + i - s.vaddr ≡ a - s.vaddr + i = omega (arith, above) in
    own_byte s (a + i) (omega (arith, above)) below ∙ ap (λ n. get_or s.bytes n 0) place ∙ sym (get_or-drop (a - s.vaddr) s.bytes i 0)

-- a word of the segment's memory is that of the file's bytes
pub own_word : (s : SegmentValue) (a : ℕ) → s.vaddr ≤ a → a + 4 ≤ s.vaddr + s.memsz → word_in s.bytes (a - s.vaddr) ≡ memory_word (s ∷ []) a
unfolding memory_word
own_word s a above below =
    let byte : byte_at (s ∷ []) a ≡ get_or (drop (a - s.vaddr) s.bytes) 0 0 = own_byte s a above (omega (arith, below)) ∙ sym (get_or-drop (a - s.vaddr) s.bytes 0 0 ∙ ap (λ n. get_or s.bytes n 0) (omega arith)) in
    let byte1 = byte_behind s a 1 above (omega (arith, below)) in
    let byte2 = byte_behind s a 2 above (omega (arith, below)) in
    let byte3 = byte_behind s a 3 above (omega (arith, below)) in
    omega (arith, byte, byte1, byte2, byte3)

-- a word that has all of its bytes in the file
pub file_word : (s : SegmentValue) (k : ℕ) → k < file_word_count s → word_in s.bytes (first_offset s + 4 * k) ≡ numbered_word s (first_word s + k)
file_word s k inside =
    let place : first_offset s + 4 * k ≡ 4 * (first_word s + k) - s.vaddr = omega arith in
    ap (word_in s.bytes) place ∙ own_word s (4 * (first_word s + k)) (omega arith) (omega (arith, inside))

pub more_words : (s : SegmentValue) (k : ℕ) → first_words s (k + 1) ≡ first_words s k ++ numbered_word s (first_word s + k) ∷ []
more_words s k = map-range_with_len_more (numbered_word s) (first_word s) k (first_word s + k) refl
