-- Of two operations of one moment the last numbers tell which key is less.
use Rattle.std.proofs.Common.{◌≡◌, ℕ, Bool, false, nat_eq, nat_lt, arith}
use Rattle.std.specs.Prelude.{◌||◌, ◌&&◌}
use Rattle.std.proofs.lemmas.Bool.Decides.{nat_tests}
use Rattle.ddm_types.specs.Keys.{key_less}
use Rattle.operation_list.specs.declared.moments.Moment.{Moment}
use Rattle.operation_list.specs.Kept.{key_at}

passed : (n : ℕ) (rest : Bool) → (nat_lt n n || (nat_eq n n && rest)) ≡ rest
passed n rest = grind (arith, nat_tests)

last : (a b : ℕ) → (nat_lt a b || (nat_eq a b && false)) ≡ nat_lt a b
last a b = grind (arith, nat_tests)

pub same_less : (m : Moment) (a b : ℕ) → key_less (key_at m a) (key_at m b) ≡ nat_lt a b
same_less m a b = rw (passed m.s0, passed m.c0, passed m.s1, passed m.c1, passed m.s2, passed m.c2, passed m.s3, passed m.c3) (last a b)
