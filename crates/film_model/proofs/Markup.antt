-- Text without markup: how it is put together, and numbers.
-- Letters: d is a digit, n a number.
use Rattle.std.proofs.Common.{◌≡◌, ℕ, zero, suc, ◌+◌, ◌/◌, ◌%◌, ◌<◌, Bool, true, false, not, cond, ◌&&◌, nat_eq, nat_lt, List, [], ◌∷◌, ◌++◌, decimal, refl, ap, ◌∙◌, arith}
use Rattle.std.proofs.lemmas.Bool.{ne_eqb, ltb-true}
use Rattle.std.specs.Prelude.{flat_map}
use Rattle.std.specs.List.{list_all}
use Rattle.std.specs.Fmt.{digit_glyph, digits_onto, digits}
use Rattle.std.proofs.lemmas.List.Folds.{list_all-append}
use Rattle.film_model.specs.DdmText.Hex.{hex2, hex8}
use Rattle.film_model.specs.Markup.{is_markup, HasNoMarkup}

abbrev pub is_plain : ℕ → Bool
is_plain byte = not (is_markup byte)

-- the text is named here, so that it is known of which text a proof is
pub record Unmarked (text : List ℕ) : Type 0 where
  pub is : HasNoMarkup text

pub text : (t : List ℕ) → HasNoMarkup t → Unmarked t
text t p = record { is = p }

pub nothing : Unmarked []
nothing = record { is = refl }

-- a text, and then another
infixl 20 ◌▹◌
pub ◌▹◌ : {s t : List ℕ} → Unmarked s → Unmarked t → Unmarked (s ++ t)
◌▹◌ {s} {t} p q = record { is = list_all-append is_plain s t ∙ ap (λ b. b && list_all is_plain t) p.is ∙ q.is }

pub byte_before : (byte : ℕ) (t : List ℕ) → is_plain byte ≡ true → Unmarked t → Unmarked (byte ∷ t)
byte_before byte t p q = record { is = ap (λ b. b && list_all is_plain t) p ∙ q.is }

-- of a list, where the text of each element has none
pub each : {X : Type 0} (f : X → List ℕ) (xs : List X) → ((x : X) → Unmarked (f x)) → Unmarked (flat_map f xs)
each f [] plain = nothing
each f (x ∷ xs) plain = plain x ▹ each f xs plain

-- ---- numbers

not_markup : (byte : ℕ) → nat_eq byte 38 ≡ false → nat_eq byte 60 ≡ false → nat_eq byte 62 ≡ false → is_plain byte ≡ true
not_markup byte ampersand less greater = rw (ampersand, less, greater) refl

by_size : (d : ℕ) (small : Bool) → nat_lt d 10 ≡ small → is_plain (cond small (48 + d) (87 + d)) ≡ true
by_size d true low =
    let below : d < 10 = ltb-true d 10 low in
    not_markup (48 + d) (ne_eqb (48 + d) 38 (λ e. omega (arith, e))) (ne_eqb (48 + d) 60 (λ e. omega (arith, e, below))) (ne_eqb (48 + d) 62 (λ e. omega (arith, e, below)))
by_size d false high =
    not_markup (87 + d) (ne_eqb (87 + d) 38 (λ e. omega (arith, e))) (ne_eqb (87 + d) 60 (λ e. omega (arith, e))) (ne_eqb (87 + d) 62 (λ e. omega (arith, e)))

glyph : (d : ℕ) → is_plain (digit_glyph false d) ≡ true
glyph d = by_size d (nat_lt d 10) refl

either_text : (b : Bool) {s t : List ℕ} → Unmarked s → Unmarked t → Unmarked (cond b s t)
either_text true p q = p
either_text false p q = q

digits_from : (k n : ℕ) (after : List ℕ) → Unmarked after → Unmarked (digits_onto k 10 false n after)
digits_from zero n after plain = plain
digits_from (suc k) n after plain =
    let last = byte_before (digit_glyph false (n % 10)) after (glyph (n % 10)) plain in
    either_text (nat_eq (n / 10) 0) last (digits_from k (n / 10) (digit_glyph false (n % 10) ∷ after) last)

pub number : (n : ℕ) → Unmarked (decimal n)
unfolding digits
number n = digits_from 64 n [] nothing

pub two_digits : (n : ℕ) → Unmarked (hex2 n)
unfolding hex2
two_digits n =
    byte_before (digit_glyph false (n / 16)) (digit_glyph false (n % 16) ∷ []) (glyph (n / 16))
    (byte_before (digit_glyph false (n % 16)) [] (glyph (n % 16)) nothing)

pub eight_digits : (n : ℕ) → Unmarked (hex8 n)
unfolding hex8
eight_digits n = two_digits (n / 16777216) ▹ two_digits (n / 65536 % 256) ▹ two_digits (n / 256 % 256) ▹ two_digits (n % 256)
