-- Leaves that are all different: there are at most 64 of them.
use Rattle.std.specs.Prelude.{ℕ, ◌<◌, nat_eq, List}
use Rattle.std.specs.List.{AllByRecursion, IsDistinct}

pub record AreLeaves (leaves : List ℕ) : Type 0 where
  pub different : IsDistinct nat_eq leaves
  pub small : AllByRecursion (λ leaf. leaf < 64) leaves
