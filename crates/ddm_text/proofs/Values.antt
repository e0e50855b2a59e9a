-- The value of digits.
use Rattle.std.proofs.Common.{◌≡◌, ℕ, suc, ◌+◌, ◌-◌, ◌*◌, ◌<◌, ◌≤◌, List, [], ◌∷◌, Err, length, get_or, drop, ap, sym, ◌∙◌, arith, drop-cons}
use Rattle.ddm_text.specs.Numbers.{value_from, value_of, at_most}
use Rattle.ddm_text.specs.declared.reading.NumberRefusal.TheVariants.{TooLarge}

-- digits behind a number make it no smaller
pub le-value_from : (n : ℕ) (bytes : List ℕ) → n ≤ value_from n bytes
le-value_from n [] = omega arith
le-value_from n (byte ∷ bytes) = omega (arith, le-value_from (n * 10 + (byte - 48)) bytes)

pub at_most-above : (most n : ℕ) → most < n → Err TooLarge ≡ at_most most n
at_most-above most n above = grind (arith)

-- a value that is above the limit with the next digit
pub at_most-next : (most n k : ℕ) (bytes : List ℕ) → k < length bytes → value_from n (drop k bytes) ≡ value_of bytes → most < n * 10 + (get_or bytes k 0 - 48) → Err TooLarge ≡ at_most most (value_of bytes)
at_most-next most n k bytes inside rest above =
    let next = get_or bytes k 0 in
    let whole : value_from (n * 10 + (next - 48)) (drop (suc k) bytes) ≡ value_of bytes = ap (λ t. value_from n t) (sym (drop-cons bytes k 0 inside)) ∙ rest in
    at_most-above most (value_of bytes) (omega (arith, le-value_from (n * 10 + (next - 48)) (drop (suc k) bytes), whole))
