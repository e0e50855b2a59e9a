use Rattle.std.proofs.Common.{arith}
use Rattle.std.proofs.lemmas.Fmt.{decimal_digit}
use Rattle.report.proofs.Decimals.{two_digits, three_digits, four_digits}
use Rattle.report.proofs.digits.push_short.Goals as goal

pub returns-then-n-lt10-clause-text : goal.returns-then-n-lt10-clause-text
returns-then-n-lt10-clause-text g c = rw (decimal_digit c.args.n (omega arith)) c.put.ensures.text

pub returns-then-n-lt100-clause-text : goal.returns-then-n-lt100-clause-text
returns-then-n-lt100-clause-text g c = rw (two_digits c.args.n (omega arith) (omega arith)) (rw c.last_digits.ensures at c.put-then-n-lt100.ensures.text)

pub returns-then-n-lt1000-clause-text : goal.returns-then-n-lt1000-clause-text
returns-then-n-lt1000-clause-text g c = rw (three_digits c.args.n (omega arith) (omega arith)) (rw c.last_digits.ensures at c.put-then-n-lt1000.ensures.text)

pub returns-else-n-lt1000-clause-text : goal.returns-else-n-lt1000-clause-text
returns-else-n-lt1000-clause-text g c = rw (four_digits c.args.n (omega arith) (omega arith)) (rw c.last_digits.ensures at c.put-else-n-lt1000.ensures.text)
