-- Division by a number that stays the same, as a multiplication.
use Rattle.std.specs.Prelude.{◌≡◌, ℕ, ◌/◌, ◌<◌, ◌≤◌}

-- the whole part of (2^64 - 1) by a divisor of 32 bits
pub record IsReciprocal (by reciprocal : ℕ) : Type 0 where
  pub some : 1 ≤ by
  pub few : by < 4294967296
  pub is : reciprocal ≡ 18446744073709551615 / by
