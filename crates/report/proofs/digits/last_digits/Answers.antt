use Rattle.report.proofs.Decimals.{in_twos}
use Rattle.report.proofs.digits.last_digits.Goals as goal

pub returns : goal.returns
returns c = rw (c.two_digits.ensures, c.two_digits-2.ensures) (in_twos c.args.n)
