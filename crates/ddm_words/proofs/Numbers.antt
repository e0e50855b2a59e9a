-- A number that is read isn't above its limit.
use Rattle.std.proofs.Common.{◌≡◌, ℕ, ◌≤◌, List, Option, Some, None, Ok, arith}
use Rattle.std.proofs.lemmas.Bool.Decides.{nat_tests}
use Rattle.ddm_text.specs.Numbers.{number_of, number_stop, value_of, at_most, unless_stopped}

small_by : (o : Option ℕ) (most v n : ℕ) → unless_stopped o (at_most most v) ≡ Ok n → n ≤ most
small_by None most v n e = grind (arith, nat_tests)
small_by (Some place) most v n e = absurd (cc e)

pub small_number : (bytes : List ℕ) (most n : ℕ) → number_of bytes most ≡ Ok n → n ≤ most
unfolding number_of
small_number bytes most n e = small_by (number_stop bytes) most (value_of bytes) n e
