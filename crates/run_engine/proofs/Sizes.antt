-- The number of places is small.
use Rattle.std.proofs.Common.{ℕ, ◌*◌, ◌<◌, ◌≤◌, arith}
use Rattle.std.specs.Prelude.{IsTrue}
use Rattle.std.proofs.lemmas.Bool.Decides.{nat_tests}
use Rattle.std.proofs.lemmas.Nat.{mul-le}
use Rattle.tree_config.specs.Ranges.{is_allowed}
use Rattle.tree_config.specs.declared.refusal.TreeKey.TheVariants as key

pub ways_few : (leaves ways : ℕ) → leaves ≤ 64 → ways ≤ 4 → leaves * ways ≤ 256
ways_few leaves ways a b = mul-le leaves ways 64 4 a b

pub places_few : (leaves ways sets : ℕ) → leaves ≤ 64 → ways ≤ 4 → sets ≤ 4096 → leaves * ways * sets ≤ 1048576
places_few leaves ways sets a b c = mul-le (leaves * ways) sets 256 4096 (ways_few leaves ways a b) c

-- a leaf has a set
pub some_set : (sets : ℕ) → IsTrue (is_allowed key.Sets sets) → 0 < sets
some_set sets allowed = grind (arith, nat_tests)
