-- A word of memory is that of the first segment that has a byte of it, if this one has all.
use Rattle.std.proofs.Common.{◌≡◌, ℕ, ◌+◌, ◌<◌, ◌≤◌, Bool, true, ◌&&◌, ◌||◌, List, [], ◌∷◌, length, drop, slice_index_or, sym, ◌∙◌, arith}
use Rattle.std.specs.Prelude.{nat_le}
use Rattle.std.proofs.lemmas.Bool.Decides.{nat_tests}
use Rattle.start_memory.specs.TreeModel.Start.Sources.{SegmentValue}
use Rattle.start_memory.specs.TreeModel.Start.Memory.{byte_at, memory_word}
use Rattle.start_memory.proofs.ByteAt.{has, byte_at-here, rest_has, rest_none, rest_past}

-- the segment has all bytes of the word
abbrev pub has_word : ℕ → SegmentValue → Bool
has_word a s = nat_le s.vaddr a && nat_le (a + 4) (s.vaddr + s.memsz)

-- it has none of so many bytes
abbrev pub is_apart : ℕ → ℕ → SegmentValue → Bool
is_apart a count s = nat_le (a + count) s.vaddr || nat_le (s.vaddr + s.memsz) a

module _ (segments : List SegmentValue) (k : ℕ) (e : SegmentValue) (a : ℕ) (inside : k < length segments) (is : e ≡ slice_index_or segments k e) where
  byte_here : (b : ℕ) → has b e ≡ true → byte_at (drop k segments) b ≡ byte_at (e ∷ []) b
  byte_here b here = rest_has segments k e b inside is here ∙ sym (byte_at-here e [] b here)

  -- the segment at k has the word
  pub word_here : has_word a e ≡ true → memory_word (drop k segments) a ≡ memory_word (e ∷ []) a
  unfolding memory_word
  word_here here =
      let byte0 = byte_here a (grind (arith, nat_tests, here)) in
      let byte1 = byte_here (a + 1) (grind (arith, nat_tests, here)) in
      let byte2 = byte_here (a + 2) (grind (arith, nat_tests, here)) in
      let byte3 = byte_here (a + 3) (grind (arith, nat_tests, here)) in
      omega (arith, byte0, byte1, byte2, byte3)

  -- the segment at k has no byte of the word
  pub word_past : is_apart a 4 e ≡ true → memory_word (drop k segments) a ≡ memory_word (drop (k + 1) segments) a
  unfolding memory_word
  word_past apart =
      let byte0 = rest_past segments k e a inside is (grind (arith, nat_tests, apart)) in
      let byte1 = rest_past segments k e (a + 1) inside is (grind (arith, nat_tests, apart)) in
      let byte2 = rest_past segments k e (a + 2) inside is (grind (arith, nat_tests, apart)) in
      let byte3 = rest_past segments k e (a + 3) inside is (grind (arith, nat_tests, apart)) in
      omega (arith, byte0, byte1, byte2, byte3)

-- no segment has a byte of the word
pub word_none : (segments : List SegmentValue) (k a : ℕ) → length segments ≤ k → memory_word (drop k segments) a ≡ 0
unfolding memory_word
word_none segments k a all =
    let byte0 = rest_none segments k a all in
    let byte1 = rest_none segments k (a + 1) all in
    let byte2 = rest_none segments k (a + 2) all in
    let byte3 = rest_none segments k (a + 3) all in
    omega (arith, byte0, byte1, byte2, byte3)
