-- Where the smaller of two numbers is no more than a third, one of them isn't.
use Rattle.std.proofs.Common.{◌≡◌, ℕ, ◌≤◌, Bool, true, false, inl, inr, refl, arith}
use Rattle.std.specs.Prelude.{◌⊎◌, min, nat_le}
use Rattle.std.proofs.Math.Nat.{min-eq_left, min-eq_right}
use Rattle.std.proofs.lemmas.Bool.Decides.{nat_tests}

pub either : (a b k : ℕ) → min a b ≤ k → (a ≤ k) ⊎ (b ≤ k)
either a b k small = by (nat_le a b) refl where
  by : (first : Bool) → nat_le a b ≡ first → (a ≤ k) ⊎ (b ≤ k)
  by true is = let le : a ≤ b = grind (arith, nat_tests) in inl (rw (min-eq_left le) at small)
  by false is = let le : b ≤ a = grind (arith, nat_tests) in inr (rw (min-eq_right le) at small)
