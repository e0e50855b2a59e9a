use Rattle.std.proofs.Common.{◌≡◌, ◌≤◌, ℕ, length, nat_lt, if◌then◌else◌, vec_capacity}
use Rattle.replacement.specs.Places.{times}
use Rattle.replacement.proofs.arrivals.numbers_below.Given as goal

abbrev pub invariant-loop-place : goal.invariant-loop-place
invariant-loop-place l =
    ((p : ℕ) → times p l.numbers.items ≡ (if nat_lt p l.place then 1 else 0)) × (length l.numbers.items ≡ l.place) × (l.places ≤ vec_capacity l.numbers)
