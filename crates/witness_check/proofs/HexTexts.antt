-- A hexadecimal number of two or eight digits has one spelling.
use Rattle.std.proofs.Common.{◌≡◌, ℕ, ◌+◌, ◌-◌, ◌*◌, ◌/◌, ◌%◌, ◌<◌, ◌≤◌, Bool, true, false, cond, ◌&&◌, nat_eq, List, [], ◌∷◌, ◌++◌, length, take, drop, Option, Some, None, refl, sym, ap, ◌∙◌, arith, append_assoc, subst}
use Rattle.std.specs.Prelude.{nat_le, nat_lt}
use Rattle.std.specs.Fmt.{digit_glyph}
use Rattle.std.proofs.lemmas.Bool.{lt-ltb, le-ltb, le-leb, lt-leb, leb-true}
use Rattle.std.proofs.lemmas.List.{take-append-drop}
use Rattle.witness_check.specs.DdmText.Hex.{hex2, hex8}
use Rattle.text_model.proofs.Pieces.{both}
use Rattle.witness_check.specs.Lines.{hex_digit, with_part, hex2_in, hex4_in, hex8_in}

-- ---- digits

low_glyph : (d : ℕ) → d < 10 → digit_glyph false d ≡ 48 + d
low_glyph d small = ap (λ t. cond t (48 + d) (87 + d)) (lt-ltb d 10 small)

high_glyph : (d : ℕ) → 10 ≤ d → digit_glyph false d ≡ 87 + d
high_glyph d large = ap (λ t. cond t (48 + d) (87 + d)) (le-ltb d 10 large)

pub record IsDigit (byte digit : ℕ) : Type 0 where
  pub small : digit < 16
  pub is : byte ≡ digit_glyph false digit

pub digit_of : (byte d : ℕ) → hex_digit byte ≡ Some d → IsDigit byte d
digit_of byte d e = by (nat_le 48 byte && nat_le byte 57) (nat_le 97 byte && nat_le byte 102) refl refl e where
  by : (a b : Bool) → (nat_le 48 byte && nat_le byte 57) ≡ a → (nat_le 97 byte && nat_le byte 102) ≡ b → cond a (Some (byte - 48)) (cond b (Some (byte - 87)) None) ≡ Some d → IsDigit byte d
  by true b low high e =
      let parts = both (nat_le 48 byte) (nat_le byte 57) low in
      let least : 48 ≤ byte = leb-true 48 byte parts.0 in
      let most : byte ≤ 57 = leb-true byte 57 parts.1 in
      let value : byte - 48 ≡ d = cc e in
      let same : byte ≡ 48 + d = omega arith in
      record { small = omega arith; is = same ∙ sym (low_glyph d (omega arith)) }
  by false true low high e =
      let parts = both (nat_le 97 byte) (nat_le byte 102) high in
      let least : 97 ≤ byte = leb-true 97 byte parts.0 in
      let most : byte ≤ 102 = leb-true byte 102 parts.1 in
      let value : byte - 87 ≡ d = cc e in
      let same : byte ≡ 87 + d = omega arith in
      record { small = omega arith; is = same ∙ sym (high_glyph d (omega arith)) }
  by false false low high e = absurd (cc e)

-- a byte between two is so, and one below the first isn't
within : (least byte most : ℕ) → least ≤ byte → byte ≤ most → (nat_le least byte && nat_le byte most) ≡ true
within least byte most a b = ap (λ t. t && nat_le byte most) (le-leb least byte a) ∙ le-leb byte most b

past : (least byte most : ℕ) → least ≤ byte → most < byte → (nat_le least byte && nat_le byte most) ≡ false
past least byte most a b = ap (λ t. t && nat_le byte most) (le-leb least byte a) ∙ lt-leb byte most b

low_digit : (byte d : ℕ) → byte ≡ 48 + d → d < 10 → hex_digit byte ≡ Some d
low_digit byte d is small =
    let value : byte - 48 ≡ d = omega arith in
    ap (λ t. cond t (Some (byte - 48)) (cond (nat_le 97 byte && nat_le byte 102) (Some (byte - 87)) None)) (within 48 byte 57 (omega arith) (omega arith))
    ∙ ap (λ (v : ℕ). Some v) value

high_digit : (byte d : ℕ) → byte ≡ 87 + d → 10 ≤ d → d < 16 → hex_digit byte ≡ Some d
high_digit byte d is large small =
    let value : byte - 87 ≡ d = omega arith in
    ap (λ t. cond t (Some (byte - 48)) (cond (nat_le 97 byte && nat_le byte 102) (Some (byte - 87)) None)) (past 48 byte 57 (omega arith) (omega arith))
    ∙ ap (λ t. cond t (Some (byte - 87)) None) (within 97 byte 102 (omega arith) (omega arith))
    ∙ ap (λ (v : ℕ). Some v) value

pub hex_digit-glyph : (d : ℕ) → d < 16 → hex_digit (digit_glyph false d) ≡ Some d
hex_digit-glyph d small = by (nat_lt d 10) refl where
  by : (t : Bool) → nat_lt d 10 ≡ t → hex_digit (digit_glyph false d) ≡ Some d
  by true e = let below : d < 10 = grind arith in low_digit (digit_glyph false d) d (low_glyph d below) below
  by false e = let above : 10 ≤ d = grind arith in high_digit (digit_glyph false d) d (high_glyph d above) above small

-- ---- two digits

pub record IsByte (word : List ℕ) (n : ℕ) : Type 0 where
  pub small : n < 256
  pub is : word ≡ hex2 n

hex2_of-digits : (a b x y n : ℕ) → IsDigit a x → IsDigit b y → x * 16 + y ≡ n → IsByte (a ∷ b ∷ []) n
unfolding hex2
hex2_of-digits a b x y n first second e =
    let small : x < 16 = first.small in
    let small' : y < 16 = second.small in
    let high : n / 16 ≡ x = omega arith in
    let low : n % 16 ≡ y = omega arith in
    record {
      small = omega arith;
      is = ap (λ (c : ℕ). c ∷ b ∷ []) (first.is ∙ ap (λ d. digit_glyph false d) (sym high)) ∙ ap (λ (c : ℕ). digit_glyph false (n / 16) ∷ c ∷ []) (second.is ∙ ap (λ d. digit_glyph false d) (sym low));
    }

pub hex2_of : (word : List ℕ) (n : ℕ) → hex2_in word ≡ Some n → IsByte word n
unfolding hex2_in
hex2_of [] n e = absurd (cc e)
hex2_of (a ∷ []) n e = absurd (cc e)
hex2_of (a ∷ b ∷ []) n e = by (hex_digit a) (hex_digit b) refl refl e where
  by : (x y : Option ℕ) → hex_digit a ≡ x → hex_digit b ≡ y → with_part 16 x y ≡ Some n → IsByte (a ∷ b ∷ []) n
  by (Some x) (Some y) first second e = hex2_of-digits a b x y n (digit_of a x first) (digit_of b y second) (cc e)
  by (Some x) None first second e = absurd (cc e)
  by None y first second e = absurd (cc e)
hex2_of (a ∷ b ∷ c ∷ more) n e = absurd (cc e)

pub hex2_in-hex2 : (n : ℕ) → n < 256 → hex2_in (hex2 n) ≡ Some n
unfolding hex2_in hex2
hex2_in-hex2 n small =
    let whole : n / 16 * 16 + n % 16 ≡ n = omega arith in
    ap (λ o. with_part 16 o (hex_digit (digit_glyph false (n % 16)))) (hex_digit-glyph (n / 16) (omega arith))
    ∙ ap (λ o. with_part 16 (Some (n / 16)) o) (hex_digit-glyph (n % 16) (omega arith))
    ∙ ap (λ (v : ℕ). Some v) whole

-- ---- four and eight digits

parts_of : (word : List ℕ) (k : ℕ) → take k word ++ drop k word ≡ word
parts_of word k = take-append-drop k word

pub record IsHalf (word : List ℕ) (n : ℕ) : Type 0 where
  pub small : n < 65536
  pub is : word ≡ hex2 (n / 256) ++ hex2 (n % 256)

pub hex4_of : (word : List ℕ) (n : ℕ) → hex4_in word ≡ Some n → IsHalf word n
unfolding hex4_in
hex4_of word n e = by (nat_eq (length word) 4) (hex2_in (take 2 word)) (hex2_in (drop 2 word)) refl refl e where
  by : (d : Bool) (x y : Option ℕ) → hex2_in (take 2 word) ≡ x → hex2_in (drop 2 word) ≡ y → cond d (with_part 256 x y) None ≡ Some n → IsHalf word n
  by true (Some x) (Some y) first second e =
      let one = hex2_of (take 2 word) x first in
      let two = hex2_of (drop 2 word) y second in
      let small : x < 256 = one.small in
      let small' : y < 256 = two.small in
      let value : x * 256 + y ≡ n = cc e in
      let high : n / 256 ≡ x = omega arith in
      let low : n % 256 ≡ y = omega arith in
      record {
        small = omega arith;
        is = sym (parts_of word 2) ∙ ap (λ t. t ++ drop 2 word) (one.is ∙ ap hex2 (sym high)) ∙ ap (λ t. hex2 (n / 256) ++ t) (two.is ∙ ap hex2 (sym low));
      }
  by true (Some x) None first second e = absurd (cc e)
  by true None y first second e = absurd (cc e)
  by false x y first second e = absurd (cc e)

pub record IsEight (word : List ℕ) (n : ℕ) : Type 0 where
  pub small : n < 4294967296
  pub is : word ≡ hex8 n

eight_of-halves : (first second : List ℕ) (x y n : ℕ) → IsHalf first x → IsHalf second y → x * 65536 + y ≡ n → IsEight (first ++ second) n
unfolding hex8
eight_of-halves first second x y n one two value =
    let small : x < 65536 = one.small in
    let small' : y < 65536 = two.small in
    let a : x / 256 ≡ n / 16777216 = omega arith in
    let b : x % 256 ≡ n / 65536 % 256 = omega arith in
    let c : y / 256 ≡ n / 256 % 256 = omega arith in
    let d : y % 256 ≡ n % 256 = omega arith in
    record {
      small = omega arith;
      is =
          ap (λ t. t ++ second) (one.is ∙ ap (λ (k : ℕ). hex2 k ++ hex2 (x % 256)) a ∙ ap (λ (k : ℕ). hex2 (n / 16777216) ++ hex2 k) b)
          ∙ ap (λ t. (hex2 (n / 16777216) ++ hex2 (n / 65536 % 256)) ++ t) (two.is ∙ ap (λ (k : ℕ). hex2 k ++ hex2 (y % 256)) c ∙ ap (λ (k : ℕ). hex2 (n / 256 % 256) ++ hex2 k) d)
          ∙ sym (append_assoc (hex2 (n / 16777216) ++ hex2 (n / 65536 % 256)) (hex2 (n / 256 % 256)) (hex2 (n % 256)));
    }

pub hex8_of : (word : List ℕ) (n : ℕ) → hex8_in word ≡ Some n → IsEight word n
unfolding hex8_in
hex8_of word n e = by (nat_eq (length word) 8) (hex4_in (take 4 word)) (hex4_in (drop 4 word)) refl refl e where
  P : List ℕ → Type 0
  P w = IsEight w n

  by : (d : Bool) (x y : Option ℕ) → hex4_in (take 4 word) ≡ x → hex4_in (drop 4 word) ≡ y → cond d (with_part 65536 x y) None ≡ Some n → IsEight word n
  by true (Some x) (Some y) first second e =
      subst P (parts_of word 4) (eight_of-halves (take 4 word) (drop 4 word) x y n (hex4_of (take 4 word) x first) (hex4_of (drop 4 word) y second) (cc e))
  by true (Some x) None first second e = absurd (cc e)
  by true None y first second e = absurd (cc e)
  by false x y first second e = absurd (cc e)

hex4_in-hex2 : (x y : ℕ) → x < 256 → y < 256 → hex4_in (hex2 x ++ hex2 y) ≡ Some (x * 256 + y)
unfolding hex4_in hex2
hex4_in-hex2 x y small small' = ap (λ o. with_part 256 o (hex2_in (hex2 y))) (hex2_in-hex2 x small) ∙ ap (λ o. with_part 256 (Some x) o) (hex2_in-hex2 y small')

hex8_in-bytes : (a b c d : ℕ) → a < 256 → b < 256 → c < 256 → d < 256 → hex8_in (((hex2 a ++ hex2 b) ++ hex2 c) ++ hex2 d) ≡ Some ((a * 256 + b) * 65536 + (c * 256 + d))
unfolding hex8_in hex2
hex8_in-bytes a b c d one two three four =
    ap (λ o. with_part 65536 o (hex4_in (hex2 c ++ hex2 d))) (hex4_in-hex2 a b one two) ∙ ap (λ o. with_part 65536 (Some (a * 256 + b)) o) (hex4_in-hex2 c d three four)

pub hex8_in-hex8 : (n : ℕ) → n < 4294967296 → hex8_in (hex8 n) ≡ Some n
unfolding hex8
hex8_in-hex8 n small =
    let whole : (n / 16777216 * 256 + n / 65536 % 256) * 65536 + (n / 256 % 256 * 256 + n % 256) ≡ n = omega arith in
    hex8_in-bytes (n / 16777216) (n / 65536 % 256) (n / 256 % 256) (n % 256) (omega arith) (omega arith) (omega arith) (omega arith) ∙ ap (λ (v : ℕ). Some v) whole
