-- How many places there are.
use Rattle.std.proofs.Common.{ℕ, ◌+◌, ◌*◌, ◌<◌, ◌≤◌, arith, suc}
use Rattle.std.proofs.Math.Nat.{mul-le-mul, mul-le-mul_right}

-- the places of a set are among all places
pub row_fits : (a b w : ℕ) → a < b → a * w + w ≤ b * w
row_fits a b w h = grind (arith, mul-le-mul_right {m = suc a} {n = b} w h)

pub small_product : (a w : ℕ) → a ≤ 4096 → w ≤ 4 → a * w ≤ 16384
small_product a w h k = mul-le-mul {n₁ = a} {m₁ = w} {n₂ = 4096} {m₂ = 4} h k
