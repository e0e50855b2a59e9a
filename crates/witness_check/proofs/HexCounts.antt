-- What bytes count for as hexadecimal digits, and numbers of them: where one is none, no less than 2 ^ 32.
use Rattle.std.proofs.Common.{◌≡◌, ℕ, ◌+◌, ◌*◌, ◌<◌, ◌≤◌, cond, List, [], ◌∷◌, length, map, take, drop, get_or, Option, Some, None, refl, sym, ap, ◌∙◌, arith}
use Rattle.std.specs.Prelude.{MatchOption, unwrap_or}
use Rattle.std.specs.List.{range_with_len}
use Rattle.std.proofs.lemmas.Bool.{ne_eqb}
use Rattle.std.proofs.lemmas.List.FromFn.{get_or-map-range_with_len}
use Rattle.witness_check.specs.declared.hex.TheConstants.{DIGITS}
use Rattle.witness_check.specs.Lines.{hex_digit, with_part, hex2_in, hex4_in, hex8_in}
use Rattle.witness_check.proofs.HexTexts.{hex2_of, hex8_of}

abbrev pub counts : ℕ → ℕ
counts byte = unwrap_or (hex_digit byte) 4294967296

-- the table has what each byte counts for
table_is : DIGITS ≡ map counts (range_with_len 0 256)
table_is = refl

pub table_at : (byte : ℕ) → byte < 256 → get_or DIGITS byte 0 ≡ counts byte
table_at byte inside = ap (λ t. get_or t byte 0) table_is ∙ get_or-map-range_with_len counts 0 256 byte byte 0 inside (omega arith)

abbrev pub Counts : Option ℕ → ℕ → Type 0
Counts o m = MatchOption o (4294967296 ≤ m) (λ n. m ≡ n)

digit_counts : (byte m : ℕ) → m ≡ counts byte → Counts (hex_digit byte) m
digit_counts byte m is = by (hex_digit byte) is where
  by : (o : Option ℕ) → m ≡ unwrap_or o 4294967296 → Counts o m
  by None is = omega arith
  by (Some n) is = is

parts : (unit : ℕ) → ((k : ℕ) → k ≤ k * unit) → (x y : Option ℕ) (m n : ℕ) → Counts x m → Counts y n → Counts (with_part unit x y) (m * unit + n)
parts unit more (Some a) (Some b) m n first second = ap (λ (k : ℕ). k * unit + n) first ∙ ap (λ (k : ℕ). a * unit + k) second
parts unit more (Some a) None m n first second = omega arith
parts unit more None y m n first second = omega (arith, more m)

pub two_count : (a b m n : ℕ) → m ≡ counts a → n ≡ counts b → Counts (hex2_in (a ∷ b ∷ [])) (m * 16 + n)
unfolding hex2_in
two_count a b m n first second = parts 16 (λ k. omega arith) (hex_digit a) (hex_digit b) m n (digit_counts a m first) (digit_counts b n second)

pub four_count : (a b c d m n : ℕ) → Counts (hex2_in (a ∷ b ∷ [])) m → Counts (hex2_in (c ∷ d ∷ [])) n → Counts (hex4_in (a ∷ b ∷ c ∷ d ∷ [])) (m * 256 + n)
unfolding hex4_in
four_count a b c d m n first second = parts 256 (λ k. omega arith) (hex2_in (a ∷ b ∷ [])) (hex2_in (c ∷ d ∷ [])) m n first second

pub eight_count : (a b c d e f g h m n : ℕ) → Counts (hex4_in (a ∷ b ∷ c ∷ d ∷ [])) m → Counts (hex4_in (e ∷ f ∷ g ∷ h ∷ [])) n
    → Counts (hex8_in (a ∷ b ∷ c ∷ d ∷ e ∷ f ∷ g ∷ h ∷ [])) (m * 65536 + n)
unfolding hex8_in
eight_count a b c d e f g h m n first second = parts 65536 (λ k. omega arith) (hex4_in (a ∷ b ∷ c ∷ d ∷ [])) (hex4_in (e ∷ f ∷ g ∷ h ∷ [])) m n first second

-- ---- what is read off at the end

number_read : (o : Option ℕ) (m : ℕ) → Counts o m → m < 4294967296 → Some m ≡ o
number_read None m count less = absurd (omega arith)
number_read (Some n) m count less = ap (λ (k : ℕ). Some k) count

none_read : (o : Option ℕ) (m : ℕ) → Counts o m → 4294967296 ≤ m → ((n : ℕ) → o ≡ Some n → n < 4294967296) → None ≡ o
none_read None m count large small = refl
none_read (Some n) m count large small = let less = small n refl in absurd (omega arith)

-- ---- words of as many bytes

two_bytes : (word : List ℕ) → length word ≡ 2 → word ≡ get_or word 0 0 ∷ get_or word 1 0 ∷ []
two_bytes [] long = absurd (omega arith)
two_bytes (a ∷ []) long = absurd (omega arith)
two_bytes (a ∷ b ∷ []) long = refl
two_bytes (a ∷ b ∷ c ∷ more) long = absurd (omega arith)

eight_bytes : (word : List ℕ) → length word ≡ 8
    → word ≡ get_or word 0 0 ∷ get_or word 1 0 ∷ get_or word 2 0 ∷ get_or word 3 0 ∷ get_or word 4 0 ∷ get_or word 5 0 ∷ get_or word 6 0 ∷ get_or word 7 0 ∷ []
eight_bytes [] long = absurd (omega arith)
eight_bytes (a ∷ []) long = absurd (omega arith)
eight_bytes (a ∷ b ∷ []) long = absurd (omega arith)
eight_bytes (a ∷ b ∷ c ∷ []) long = absurd (omega arith)
eight_bytes (a ∷ b ∷ c ∷ d ∷ []) long = absurd (omega arith)
eight_bytes (a ∷ b ∷ c ∷ d ∷ e ∷ []) long = absurd (omega arith)
eight_bytes (a ∷ b ∷ c ∷ d ∷ e ∷ f ∷ []) long = absurd (omega arith)
eight_bytes (a ∷ b ∷ c ∷ d ∷ e ∷ f ∷ g ∷ []) long = absurd (omega arith)
eight_bytes (a ∷ b ∷ c ∷ d ∷ e ∷ f ∷ g ∷ h ∷ []) long = refl
eight_bytes (a ∷ b ∷ c ∷ d ∷ e ∷ f ∷ g ∷ h ∷ i ∷ more) long = absurd (omega arith)

-- ---- two digits

pub hex2_other : (word : List ℕ) → (length word ≡ 2 → ⊥) → None ≡ hex2_in word
unfolding hex2_in
hex2_other [] other = refl
hex2_other (a ∷ []) other = refl
hex2_other (a ∷ b ∷ []) other = absurd (other refl)
hex2_other (a ∷ b ∷ c ∷ more) other = refl

pub hex2_is : (word : List ℕ) (m : ℕ) → length word ≡ 2 → Counts (hex2_in (get_or word 0 0 ∷ get_or word 1 0 ∷ [])) m → m < 4294967296 → Some m ≡ hex2_in word
hex2_is word m long count less = number_read _ m count less ∙ sym (ap hex2_in (two_bytes word long))

pub hex2_small : (word : List ℕ) (m : ℕ) → length word ≡ 2 → Counts (hex2_in (get_or word 0 0 ∷ get_or word 1 0 ∷ [])) m → m < 4294967296 → m < 256
hex2_small word m long count less = (hex2_of word m (sym (hex2_is word m long count less))).small

pub hex2_none : (word : List ℕ) (m : ℕ) → length word ≡ 2 → Counts (hex2_in (get_or word 0 0 ∷ get_or word 1 0 ∷ [])) m → 4294967296 ≤ m → None ≡ hex2_in word
hex2_none word m long count large =
    none_read _ m count large (λ n e. let small = (hex2_of _ n e).small in omega arith) ∙ sym (ap hex2_in (two_bytes word long))

-- ---- eight digits

pub hex8_other : (word : List ℕ) → (length word ≡ 8 → ⊥) → None ≡ hex8_in word
unfolding hex8_in
hex8_other word other = sym (ap (λ d. cond d (with_part 65536 (hex4_in (take 4 word)) (hex4_in (drop 4 word))) None) (ne_eqb (length word) 8 other))

abbrev eight_of : List ℕ → List ℕ
eight_of word = get_or word 0 0 ∷ get_or word 1 0 ∷ get_or word 2 0 ∷ get_or word 3 0 ∷ get_or word 4 0 ∷ get_or word 5 0 ∷ get_or word 6 0 ∷ get_or word 7 0 ∷ []

pub hex8_is : (word : List ℕ) (m : ℕ) → length word ≡ 8 → Counts (hex8_in (eight_of word)) m → m < 4294967296 → Some m ≡ hex8_in word
hex8_is word m long count less = number_read _ m count less ∙ sym (ap hex8_in (eight_bytes word long))

pub hex8_none : (word : List ℕ) (m : ℕ) → length word ≡ 8 → Counts (hex8_in (eight_of word)) m → 4294967296 ≤ m → None ≡ hex8_in word
hex8_none word m long count large =
    none_read _ m count large (λ n e. (hex8_of _ n e).small) ∙ sym (ap hex8_in (eight_bytes word long))
