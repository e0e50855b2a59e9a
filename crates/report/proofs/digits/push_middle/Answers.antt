use Rattle.std.proofs.Common.{◌/◌, arith}
use Rattle.report.proofs.Decimals.{by_four, one_digit, two_digits, three_digits, four_digits}
use Rattle.report.proofs.digits.push_middle.Goals as goal

pub returns-then-n-lt100000-clause-text : goal.returns-then-n-lt100000-clause-text
returns-then-n-lt100000-clause-text g c = rw (by_four c.args.n (omega arith) (omega arith), one_digit (c.args.n / 10000) (omega arith)) (rw (c.last_digits.ensures, c.last_digits-2.ensures) at c.put.ensures.text)

pub returns-then-n-lt1000000-clause-text : goal.returns-then-n-lt1000000-clause-text
returns-then-n-lt1000000-clause-text g c = rw (by_four c.args.n (omega arith) (omega arith), two_digits (c.args.n / 10000) (omega arith) (omega arith)) (rw (c.last_digits.ensures, c.last_digits-2.ensures) at c.put-then-n-lt1000000.ensures.text)

pub returns-then-n-lt10000000-clause-text : goal.returns-then-n-lt10000000-clause-text
returns-then-n-lt10000000-clause-text g c = rw (by_four c.args.n (omega arith) (omega arith), three_digits (c.args.n / 10000) (omega arith) (omega arith)) (rw (c.last_digits.ensures, c.last_digits-2.ensures) at c.put-then-n-lt10000000.ensures.text)

pub returns-else-n-lt10000000-clause-text : goal.returns-else-n-lt10000000-clause-text
returns-else-n-lt10000000-clause-text g c = rw (by_four c.args.n (omega arith) (omega arith), four_digits (c.args.n / 10000) (omega arith) (omega arith)) (rw (c.last_digits.ensures, c.last_digits-2.ensures) at c.put-else-n-lt10000000.ensures.text)
