use Rattle.std.proofs.Common.{arith}
use Rattle.report.proofs.Decimals.{one_digit, two_digits, three_digits}
use Rattle.report.proofs.digits.push_spaced_byte.Goals as goal

pub returns-then-n-lt10-clause-text : goal.returns-then-n-lt10-clause-text
returns-then-n-lt10-clause-text g c = rw (one_digit c.args.n (omega arith)) (rw c.byte_digits.ensures at c.put.ensures.text)

pub returns-then-n-lt100-clause-text : goal.returns-then-n-lt100-clause-text
returns-then-n-lt100-clause-text g c = rw (two_digits c.args.n (omega arith) (omega arith)) (rw c.byte_digits.ensures at c.put-then-n-lt100.ensures.text)

pub returns-else-n-lt100-clause-text : goal.returns-else-n-lt100-clause-text
returns-else-n-lt100-clause-text g c = rw (three_digits c.args.n (omega arith) (omega arith)) (rw c.byte_digits.ensures at c.put-else-n-lt100.ensures.text)
