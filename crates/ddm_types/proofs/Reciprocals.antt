-- A quotient by a multiplication.
use Rattle.std.proofs.Common.{◌≡◌, ℕ, ◌+◌, ◌-◌, ◌*◌, ◌/◌, ◌%◌, ◌<◌, ◌≤◌, ap, sym, ◌∙◌, arith}
use Rattle.std.proofs.lemmas.Nat.{div-add-mod', div-mul-add, le-div, mul-le, mod_below}
use Rattle.ddm_types.specs.Divisors.{IsReciprocal}

-- a number between two multiples has the quotient of the lower one
between : (x q w : ℕ) → q * w ≤ x → x < q * w + w → x / w ≡ q
between x q w low high =
    let is : x ≡ q * w + (x - q * w) = omega (arith, low) in
    ap (λ (y : ℕ). y / w) is ∙ div-mul-add q w (x - q * w) (omega (arith, low, high))

-- where n is q times the divisor and a rest, and `all` is m times it and a rest
module _ (n by q s m r all : ℕ) (n_is : q * by + s ≡ n) (s_small : s < by) (all_is : m * by + r ≡ all) (r_small : r < by) where
  from_below : n ≤ m → q * (all + 1) ≤ (n + 1) * m
  from_below few =
      let whole : q * (r + 1) ≤ q * by = mul-le q (r + 1) q by (omega arith) (omega (arith, r_small)) in
      let times : (q * by + 1) * m ≤ (n + 1) * m = mul-le (q * by + 1) m (n + 1) m (omega (arith, n_is)) (omega arith) in
      let same : q * (all + 1) ≡ q * (m * by + r + 1) = ap (λ (k : ℕ). q * (k + 1)) (sym all_is) in
      omega (arith, whole, times, same, n_is, few)

  from_above : (n + 1) * m < q * (all + 1) + (all + 1)
  from_above =
      let times : (n + 1) * m ≤ (q * by + by) * m = mul-le (n + 1) m (q * by + by) m (omega (arith, n_is, s_small)) (omega arith) in
      let whole : q * (m * by) ≤ q * all = mul-le q (m * by) q all (omega arith) (omega (arith, all_is)) in
      omega (arith, times, whole, all_is)

-- one more than a number, times the whole part of (2^64 - 1) by the divisor, without its last 64 bits
pub by_reciprocal : (n by reciprocal : ℕ) → n < 4294967296 → IsReciprocal by reciprocal
    → (n + 1) * reciprocal / 18446744073709551616 ≡ n / by
by_reciprocal n by reciprocal few of_by =
    let all : ℕ = 18446744073709551615 in
    let parts : reciprocal * by + all % by ≡ all = ap (λ (m : ℕ). m * by + all % by) of_by.is ∙ div-add-mod' all by in
    let large : 4294967296 ≤ all / by = le-div 4294967296 all by (omega (arith, of_by.some)) (omega (arith, of_by.few)) in
    let low = from_below n by (n / by) (n % by) reciprocal (all % by) all (div-add-mod' n by) (mod_below n by (omega (arith, of_by.some))) parts (mod_below all by (omega (arith, of_by.some))) (omega (arith, few, large, of_by.is)) in
    let high = from_above n by (n / by) (n % by) reciprocal (all % by) all (div-add-mod' n by) (mod_below n by (omega (arith, of_by.some))) parts (mod_below all by (omega (arith, of_by.some))) in
    between ((n + 1) * reciprocal) (n / by) 18446744073709551616 low high
