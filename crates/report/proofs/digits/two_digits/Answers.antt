use Rattle.std.proofs.Common.{◌+◌, ◌*◌, ◌/◌, ◌%◌, refl, arith, add-one}
use Rattle.report.proofs.Pairs.{pair_at}
use Rattle.report.proofs.digits.two_digits.Goals as goal

pub returns : goal.returns
returns c = rw add-one (pair_at (λ n. 48 + n / 10) (λ n. 48 + n % 10) 100 0 c.args.n (2 * c.args.n) c.args.n refl c.requires (omega arith))
