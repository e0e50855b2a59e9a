-- The two digits of each of the first numbers, one behind the other.
use Rattle.std.proofs.Common.{◌≡◌, ◌<◌, ℕ, zero, suc, ◌+◌, ◌-◌, ◌*◌, List, [], ◌∷◌, get_or, ap, arith}

-- those of so many numbers from k on, by what gives the first and the second digit of a number
abbrev pub pairs_from : (ℕ → ℕ) → (ℕ → ℕ) → ℕ → ℕ → List ℕ
pairs_from first second k zero = []
pairs_from first second k (suc count) = first k ∷ second k ∷ pairs_from first second (suc k) count

-- those of the number n places behind k
pub pair_at : (first second : ℕ → ℕ) (count k n i m : ℕ) → i ≡ 2 * n → n < count → m ≡ k + n
    → get_or (pairs_from first second k count) i 0 ∷ get_or (pairs_from first second k count) (suc i) 0 ∷ [] ≡ first m ∷ second m ∷ []
pair_at first second zero k n i m at few is = absurd (omega (arith, few))
pair_at first second (suc count) k n zero m at few is = let same : k ≡ m = omega (arith, at, is) in ap (λ j. first j ∷ second j ∷ []) same
pair_at first second (suc count) k n (suc zero) m at few is = absurd (omega (arith, at))
pair_at first second (suc count) k n (suc (suc i)) m at few is = pair_at first second count (suc k) (n - 1) i m (omega (arith, at)) (omega (arith, at, few)) (omega (arith, at, is))
