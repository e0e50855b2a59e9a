-- A file that is kept as its words: what a word more adds, and that its whole words are those that are kept.
-- Letters: a, b, c and d are bytes, w is a word, ws are words.
use Rattle.std.specs.Prelude.{◌≡◌, ℕ, ◌+◌, ◌-◌, ◌*◌, ◌<◌, ◌≤◌, List, [], ◌∷◌, ◌++◌, length, take, drop, slice_set, refl}
use Rattle.std.specs.List.{flat_map}
use Rattle.std.specs.Int.{w32, to_le_bytes, from_le_bytes}
use Rattle.std.proofs.Common.{ap, sym, ◌∙◌, arith, append_assoc, append-nil, get_or, length-append, suc}
use Rattle.std.proofs.lemmas.Grind.{flat_map-append}
use Rattle.std.proofs.lemmas.List.{drop-drop, drop_more, length-drop, take_all, take_more_set, take-append-drop}
use Rattle.std.proofs.lemmas.Nat.{le_bytes_4, from_le_bytes-to_le_bytes_4}
use Rattle.checkpoint.specs.declared.file.Rest.{Rest}
use Rattle.checkpoint.specs.declared.file.Rest.TheVariants.{Nothing, One, Two, Three}
use Rattle.checkpoint.specs.Resumed.{whole_words}
use Rattle.checkpoint.specs.FileBytes.{AreWords, bytes_in, rest_bytes}
use Rattle.checkpoint.proofs.Bytes.{four-small}

abbrev bytes_of : List ℕ → List ℕ
bytes_of ws = flat_map (to_le_bytes w32) ws

abbrev word_of : ℕ → ℕ → ℕ → ℕ → ℕ
word_of a b c d = from_le_bytes w32 (a ∷ b ∷ c ∷ d ∷ [])

-- ---- four bytes more

module _ (a b c d : ℕ) (la : a < 256) (lb : b < 256) (lc : c < 256) (ld : d < 256) where
  pub word-bytes : (ws : List ℕ) → bytes_of (ws ++ word_of a b c d ∷ []) ≡ bytes_of ws ++ a ∷ b ∷ c ∷ d ∷ []
  word-bytes ws =
      let four = a ∷ b ∷ c ∷ d ∷ [] in
      let word : to_le_bytes w32 (word_of a b c d) ≡ four = le_bytes_4 four (word_of a b c d) refl (λ i. four-small a b c d i la lb lc ld) refl in
      flat_map-append (to_le_bytes w32) ws (word_of a b c d ∷ []) ∙ ap (λ l. bytes_of ws ++ l) word

-- ---- words that are written in the place of others

four_more : (bytes : List ℕ) (at : ℕ) → at + 4 ≤ length bytes → drop at bytes ≡ get_or bytes at 0 ∷ get_or bytes (at + 1) 0 ∷ get_or bytes (at + 2) 0 ∷ get_or bytes (at + 3) 0 ∷ drop (at + 4) bytes
four_more bytes at room =
    let a : at + 1 + 1 ≡ at + 2 = omega arith in
    let b : at + 2 + 1 ≡ at + 3 = omega arith in
    let c : at + 3 + 1 ≡ at + 4 = omega arith in
    let from : ℕ → List ℕ = λ n. drop n bytes in
    drop_more bytes at 0 (omega (arith, room))
    ∙ ap (λ l. get_or bytes at 0 ∷ l) (drop_more bytes (at + 1) 0 (omega (arith, room)) ∙ ap (λ n. get_or bytes (at + 1) 0 ∷ from n) a)
    ∙ ap (λ l. get_or bytes at 0 ∷ get_or bytes (at + 1) 0 ∷ l) (drop_more bytes (at + 2) 0 (omega (arith, room)) ∙ ap (λ n. get_or bytes (at + 2) 0 ∷ from n) b)
    ∙ ap (λ l. get_or bytes at 0 ∷ get_or bytes (at + 1) 0 ∷ get_or bytes (at + 2) 0 ∷ l) (drop_more bytes (at + 3) 0 (omega (arith, room)) ∙ ap (λ n. get_or bytes (at + 3) 0 ∷ from n) c)

-- the word of a part of four bytes
abbrev word_in : List ℕ → ℕ
word_in part = word_of (get_or part 0 0) (get_or part 1 0) (get_or part 2 0) (get_or part 3 0)

module _ (words bytes : List ℕ) (at many w : ℕ) (inside : at < length words) (room : 4 * at + 4 ≤ length bytes) (small : (i : ℕ) → get_or bytes i 0 < 256) (four : many ≡ 4) where
  pub word-written : bytes_of (take at words) ++ drop (4 * at) bytes ≡ bytes → w ≡ word_in (take many (drop (4 * at) bytes)) → bytes_of (take (at + 1) (slice_set words at w)) ++ drop (4 * (at + 1)) bytes ≡ bytes
  word-written so_far is =
      let k = 4 * at in
      let next : 4 * (at + 1) ≡ k + 4 = omega arith in
      let some = bytes_of (take at words) in
      let rest = drop (4 * (at + 1)) bytes in
      let part = four_more bytes k room in
      let word : w ≡ word_of (get_or bytes k 0) (get_or bytes (k + 1) 0) (get_or bytes (k + 2) 0) (get_or bytes (k + 3) 0) =
      is ∙ ap (λ n. word_in (take n (drop k bytes))) four ∙ ap (λ l. word_in (take 4 l)) part in
      ap (λ l. bytes_of l ++ rest) (take_more_set words at w inside)
      ∙ ap (λ x. bytes_of (take at words ++ x ∷ []) ++ rest) word
      ∙ ap (λ l. l ++ rest) (word-bytes (get_or bytes k 0) (get_or bytes (k + 1) 0) (get_or bytes (k + 2) 0) (get_or bytes (k + 3) 0) (small k) (small (k + 1)) (small (k + 2)) (small (k + 3)) (take at words))
      ∙ append_assoc some (get_or bytes k 0 ∷ get_or bytes (k + 1) 0 ∷ get_or bytes (k + 2) 0 ∷ get_or bytes (k + 3) 0 ∷ []) rest
      ∙ ap (λ j. some ++ get_or bytes k 0 ∷ get_or bytes (k + 1) 0 ∷ get_or bytes (k + 2) 0 ∷ get_or bytes (k + 3) 0 ∷ drop j bytes) next
      ∙ ap (λ l. some ++ l) (sym part)
      ∙ so_far

-- ---- all bytes

pub bytes-long : (ws : List ℕ) → length (bytes_of ws) ≡ 4 * length ws
bytes-long [] = refl
bytes-long (w ∷ ws) = omega (arith, bytes-long ws)

pub file-long : (ws : List ℕ) (rest : Rest) → length (bytes_in ws rest) ≡ 4 * length ws + length (rest_bytes rest)
file-long ws rest = omega (arith, length-append (bytes_of ws) (rest_bytes rest), bytes-long ws)

pub words-in : (ws : List ℕ) (rest : Rest) → AreWords ws → whole_words (bytes_in ws rest) ≡ ws
words-in [] Nothing small = refl
words-in [] (One a) small = refl
words-in [] (Two a b) small = refl
words-in [] (Three a b c) small = refl
words-in (w ∷ ws) rest small =
    ap (λ x. x ∷ whole_words (bytes_in ws rest)) (from_le_bytes-to_le_bytes_4 w (small 0 (omega arith))) ∙ ap (λ l. w ∷ l) (words-in ws rest (λ k inside. small (suc k) (omega (arith, inside))))

-- ---- a piece more

pub rest-few : (rest : Rest) → length (rest_bytes rest) ≤ 3
rest-few Nothing = omega arith
rest-few (One a) = omega arith
rest-few (Two a b) = omega arith
rest-few (Three a b c) = omega arith

-- bytes come before the rest where there is none
words-before : (some bytes rest : List ℕ) → (0 < length bytes → length rest ≡ 0) → (some ++ bytes) ++ rest ≡ (some ++ rest) ++ bytes
words-before some [] rest none = append_assoc some [] rest ∙ sym (append-nil (some ++ rest))
words-before some (b ∷ bytes) [] none = append-nil (some ++ b ∷ bytes) ∙ ap (λ l. l ++ b ∷ bytes) (sym (append-nil some))
words-before some (b ∷ bytes) (r ∷ rest) none = absurd (omega (arith, none (omega arith)))

-- a first part, words and a last part
pub parts-put : (before first middle last begun words all : List ℕ) (rest : Rest) → begun ++ rest_bytes rest ≡ before ++ first → words ≡ begun ++ middle → (0 < length middle → length (rest_bytes rest) ≡ 0) → all ≡ words ++ rest_bytes rest ++ last → all ≡ before ++ (first ++ (middle ++ last))
parts-put before first middle last begun words all rest is_begun are none is =
    let tail = rest_bytes rest in
    is
    ∙ ap (λ l. l ++ tail ++ last) are
    ∙ ap (λ l. l ++ last) (words-before begun middle tail none ∙ ap (λ l. l ++ middle) is_begun)
    ∙ append_assoc (before ++ first) middle last
    ∙ append_assoc before first (middle ++ last)

pub cut-twice : (piece : List ℕ) (i j : ℕ) → i ≤ j → take i piece ++ (take (j - i) (drop i piece) ++ take (length piece - j) (drop j piece)) ≡ piece
cut-twice piece i j le =
    let to : i + (j - i) ≡ j = omega arith in
    ap (λ l. take i piece ++ (take (j - i) (drop i piece) ++ l)) (take_all (length piece - j) (drop j piece) (omega (arith, length-drop j piece)))
    ∙ ap (λ l. take i piece ++ l) (ap (λ k. take (j - i) (drop i piece) ++ drop k piece) (sym to) ∙ ap (λ l. take (j - i) (drop i piece) ++ l) (sym (drop-drop (j - i) i piece)) ∙ take-append-drop (j - i) (drop i piece))
    ∙ take-append-drop i piece
