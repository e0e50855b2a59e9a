-- Words and their bytes, the least first, determine each other.
use Rattle.std.proofs.Common.{◌≡◌, ◌<◌, ℕ, zero, suc, ◌+◌, ◌*◌, ◌/◌, ◌++◌, List, [], ◌∷◌, length, take, get_or, refl, ap, ◌∙◌, arith}
use Rattle.std.specs.List.{AllByRecursion, flat_map}
use Rattle.std.specs.Int.{w32, to_le_bytes, from_le_bytes}
use Rattle.std.proofs.lemmas.Nat.{le_bytes_4, from_le_bytes-to_le_bytes_4}
use Rattle.checkpoint.specs.Resumed.{whole_words}

-- numbers of 32 bits that are written as bytes are read again
pub words-again : (ws : List ℕ) → AllByRecursion (λ w. w < 4294967296) ws → whole_words (flat_map (to_le_bytes w32) ws) ≡ ws
words-again [] small = refl
words-again (w ∷ ws) small =
    ap (λ x. x ∷ whole_words (flat_map (to_le_bytes w32) ws)) (from_le_bytes-to_le_bytes_4 w small.0) ∙ ap (λ l. w ∷ l) (words-again ws small.1)

pub four-small : (a b c d i : ℕ) → a < 256 → b < 256 → c < 256 → d < 256 → get_or (a ∷ b ∷ c ∷ d ∷ []) i 0 < 256
four-small a b c d zero la lb lc ld = la
four-small a b c d (suc zero) la lb lc ld = lb
four-small a b c d (suc (suc zero)) la lb lc ld = lc
four-small a b c d (suc (suc (suc zero))) la lb lc ld = ld
four-small a b c d (suc (suc (suc (suc i)))) la lb lc ld = omega arith

-- bytes that are read as words are written again, but for the last ones that make no word
pub bytes-again : (bytes : List ℕ) → AllByRecursion (λ b. b < 256) bytes → flat_map (to_le_bytes w32) (whole_words bytes) ≡ take (4 * (length bytes / 4)) bytes
bytes-again [] small = refl
bytes-again (a ∷ []) small = refl
bytes-again (a ∷ b ∷ []) small = refl
bytes-again (a ∷ b ∷ c ∷ []) small = refl
bytes-again (a ∷ b ∷ c ∷ d ∷ rest) small =
    let four = a ∷ b ∷ c ∷ d ∷ [] in
    let word = le_bytes_4 four (from_le_bytes w32 four) refl (λ i. four-small a b c d i small.0 small.1.0 small.1.1.0 small.1.1.1.0) refl in
    let many : suc (suc (suc (suc (4 * (length rest / 4))))) ≡ 4 * (length (a ∷ b ∷ c ∷ d ∷ rest) / 4) = omega arith in
    ap (λ l. l ++ flat_map (to_le_bytes w32) (whole_words rest)) word ∙ ap (λ l. a ∷ b ∷ c ∷ d ∷ l) (bytes-again rest small.1.1.1.1) ∙ ap (λ n. take n (a ∷ b ∷ c ∷ d ∷ rest)) many

-- how many words there are
pub words-many : (bytes : List ℕ) → length (whole_words bytes) ≡ length bytes / 4
words-many [] = refl
words-many (a ∷ []) = refl
words-many (a ∷ b ∷ []) = refl
words-many (a ∷ b ∷ c ∷ []) = refl
words-many (a ∷ b ∷ c ∷ d ∷ rest) = omega (arith, words-many rest)

-- each of them is a number of 32 bits
pub words-small : (bytes : List ℕ) → AllByRecursion (λ b. b < 256) bytes → AllByRecursion (λ w. w < 4294967296) (whole_words bytes)
words-small [] small = tt
words-small (a ∷ []) small = tt
words-small (a ∷ b ∷ []) small = tt
words-small (a ∷ b ∷ c ∷ []) small = tt
words-small (a ∷ b ∷ c ∷ d ∷ rest) small =
    let word : a + b * 256 + c * 65536 + d * 16777216 < 4294967296 = omega (arith, small.0, small.1.0, small.1.1.0, small.1.1.1.0) in
    (word, words-small rest small.1.1.1.1)
