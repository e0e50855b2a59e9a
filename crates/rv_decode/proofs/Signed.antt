-- Numbers of so many bits in two's complement.
use Rattle.std.proofs.Common.{◌≡◌, ℕ, ◌+◌, ◌-◌, ◌*◌, ◌%◌, ◌^◌, ◌<◌, ◌≤◌, ◌↔◌, IsTrue, nat_lt, true, refl, ap, arith, ℤ, pos, negsuc, ◌+ℤ◌, ◌-ℤ◌, ◌∙◌, FitsSigned, to_z, of_z, w32, Fits, rules}
use Rattle.std.proofs.Math.Nat.{pow-le-pow_right}
use Rattle.std.proofs.lemmas.Int.{ints, to_z_pos}
use Rattle.std.proofs.lemmas.Nat.{one_shl, pow-add}
use Rattle.std.proofs.lemmas.Bool.{cond_both, ltb-true, ltb-false, lt-ltb, le-ltb}
use lib.Signed.{lt_z, le_z, non_neg}
use lib.Dec.{T}
use lib.IntN.{nat_abs}
use Rattle.rv_decode.specs.Table.{signed}
use Rattle.rv_decode.specs.Encode.{bits_of}
use Rattle.rv_decode.specs.Valid.{FitsBits, IsEven}

-- half of the numbers of so many bits, as the code has it
pub half_is : (bits : ℕ) → bits ≤ 21 → 1 * 2 ^ (bits - 1) % 2 ^ 32 ≡ 2 ^ (bits - 1)
half_is bits h = one_shl (bits - 1) 32 (omega arith)

pub half_small : (bits : ℕ) → bits ≤ 21 → 2 ^ (bits - 1) ≤ 2 ^ 20
half_small bits h = (let below : bits - 1 ≤ 20 = omega arith in pow-le-pow_right {n = 2} (omega arith) below)

pub fits_test : (half bits : ℕ) (z : ℤ) → half ≡ 2 ^ (bits - 1) → half ≤ 2 ^ 20 → FitsSigned w32 z → le_z (to_z w32 (of_z w32 (pos 0 -ℤ to_z w32 half))) (to_z w32 (of_z w32 z)) ≡ true → IsTrue (lt_z (to_z w32 (of_z w32 z)) (to_z w32 half)) ↔ FitsBits bits z
fits_test half bits (pos n) e small fits low = rw (← e) (grind (arith, ints))
fits_test half bits (negsuc n) e small fits low = rw (← e) (grind (arith, ints))

-- ---- a number's bits

pub signed_at : (P : ℤ → Type 0) (bits n : ℕ) → (n < 2 ^ (bits - 1) → P (pos n)) → (2 ^ (bits - 1) ≤ n → P (negsuc (2 ^ bits - 1 - n))) → P (signed bits n)
signed_at P bits n low high =
    cond_both (nat_lt n (2 ^ (bits - 1))) (pos n) (negsuc (2 ^ bits - 1 - n)) P (λ e. low (ltb-true n (2 ^ (bits - 1)) e)) (λ e. high (ltb-false n (2 ^ (bits - 1)) e))

-- all the numbers of so many bits are twice half of them
abbrev pub HasHalf : ℕ → Type 0
HasHalf bits = 2 ^ bits ≡ 2 * 2 ^ (bits - 1)

pub FitsBits-signed : (bits n : ℕ) → HasHalf bits → n < 2 ^ bits → FitsBits bits (signed bits n)
FitsBits-signed bits n half below = signed_at (FitsBits bits) bits n (λ h. h) (λ h. omega arith)

pub bits_of-signed : (bits n : ℕ) → n < 2 ^ bits → bits_of bits (signed bits n) ≡ n
bits_of-signed bits n below = signed_at (λ z. bits_of bits z ≡ n) bits n (λ h. refl) (λ h. omega arith)

pub bits_of_below : (bits : ℕ) (z : ℤ) → HasHalf bits → FitsBits bits z → bits_of bits z < 2 ^ bits
bits_of_below bits (pos n) half fits = omega arith
bits_of_below bits (negsuc n) half fits = omega arith

pub signed-bits_of : (bits : ℕ) (z : ℤ) → HasHalf bits → FitsBits bits z → signed bits (bits_of bits z) ≡ z
signed-bits_of bits (pos n) half fits = rw (lt-ltb n (2 ^ (bits - 1)) fits) refl
signed-bits_of bits (negsuc n) half fits =
    let high : 2 ^ (bits - 1) ≤ 2 ^ bits - 1 - n = omega arith in
    let back : 2 ^ bits - 1 - (2 ^ bits - 1 - n) ≡ n = omega arith in
    rw (le-ltb (2 ^ bits - 1 - n) (2 ^ (bits - 1)) high) (ap negsuc back)

pub IsEven-signed : (bits n : ℕ) → HasHalf bits → n < 2 ^ bits → n % 2 ≡ 0 → IsEven (signed bits n)
IsEven-signed bits n half below even = signed_at IsEven bits n (λ h. even) (λ h. omega arith)

pub bits_of_even : (bits : ℕ) (z : ℤ) → HasHalf bits → FitsBits bits z → IsEven z → bits_of bits z % 2 ≡ 0
bits_of_even bits (pos n) half fits even = even
bits_of_even bits (negsuc n) half fits even = omega arith

-- ---- the bits of a number, as the code has them

pub half_of : (bits : ℕ) → 1 ≤ bits → HasHalf bits
half_of bits h =
    let one_more : bits ≡ 1 + (bits - 1) = omega arith in
    ap (λ n. 2 ^ n) one_more ∙ pow-add 2 1 (bits - 1)

pub all_is : (bits : ℕ) → bits ≤ 21 → 1 * 2 ^ bits % 2 ^ 32 ≡ 2 ^ bits
all_is bits h = one_shl bits 32 (omega arith)

pub all_small : (bits : ℕ) → bits ≤ 21 → 2 ^ bits ≤ 2 ^ 21
all_small bits h = pow-le-pow_right {n = 2} (omega arith) h

-- a negative number, and all the numbers of its bits added
abbrev pub raised : ℤ → ℕ → ℤ
raised z all = to_z w32 (of_z w32 z) +ℤ to_z w32 all

abbrev pub IsNegative : ℤ → Type 0
IsNegative z = lt_z (to_z w32 (of_z w32 z)) (pos 0) ≡ true

pub raised_fits : (all bits : ℕ) (z : ℤ) → all ≡ 2 ^ bits → HasHalf bits → all ≤ 2 ^ 21 → FitsBits bits z → IsNegative z → FitsSigned w32 (raised z all)
raised_fits all bits (pos n) e half small fits negative = omega (arith, ints)
raised_fits all bits (negsuc n) e half small fits negative = omega (arith, ints)

pub raised_is : (all bits : ℕ) (z : ℤ) → all ≡ 2 ^ bits → HasHalf bits → all ≤ 2 ^ 21 → FitsBits bits z → IsNegative z → FitsSigned w32 z → raised z all ≡ pos (bits_of bits z)
raised_is all bits (pos n) e half small fits negative range = omega (arith, ints)
raised_is all bits (negsuc n) e half small fits negative range = rw (← e) (omega (arith, ints))

-- a number that is not negative, as the code casts it
pub cast_fits : (y : ℤ) (b : ℕ) → y ≡ pos b → b < 2 ^ 21 → T (non_neg (to_z w32 (of_z w32 y))) × Fits w32 (nat_abs (to_z w32 (of_z w32 y)))
cast_fits y b e small = let low : b < 2 ^ 31 = omega arith in rw (e, to_z_pos w32 b low) (search rules)

pub cast_is : (y : ℤ) (b : ℕ) → y ≡ pos b → b < 2 ^ 21 → nat_abs (to_z w32 (of_z w32 y)) ≡ b
cast_is y b e small = let low : b < 2 ^ 31 = omega arith in rw (e, to_z_pos w32 b low) refl

pub bits_of_small : (bits : ℕ) (z : ℤ) → 1 ≤ bits → bits ≤ 21 → FitsBits bits z → bits_of bits z < 2 ^ 21
bits_of_small bits z low high fits =
    let below : bits_of bits z < 2 ^ bits = bits_of_below bits z (half_of bits low) fits in
    let small : 2 ^ bits ≤ 2 ^ 21 = all_small bits high in
    omega arith
