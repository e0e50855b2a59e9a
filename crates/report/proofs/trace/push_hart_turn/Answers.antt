use Rattle.std.proofs.Common.{arith}
use Rattle.std.proofs.lemmas.Fmt.{decimal_digit}
use Rattle.report.proofs.Decimals.{one_digit, two_digits, three_digits}
use Rattle.report.proofs.trace.push_hart_turn.Goals as goal

pub returns-then-victim-lt10-clause-text : goal.returns-then-victim-lt10-clause-text
returns-then-victim-lt10-clause-text g c = rw (decimal_digit c.args.hart (omega arith), ← c.hart.view_is, one_digit c.args.victim (omega arith)) (rw c.byte_digits.ensures at c.put.ensures.text)

pub returns-then-victim-lt100-clause-text : goal.returns-then-victim-lt100-clause-text
returns-then-victim-lt100-clause-text g c = rw (decimal_digit c.args.hart (omega arith), ← c.hart.view_is, two_digits c.args.victim (omega arith) (omega arith)) (rw c.byte_digits.ensures at c.put-then-victim-lt100.ensures.text)

pub returns-else-victim-lt100-clause-text : goal.returns-else-victim-lt100-clause-text
returns-else-victim-lt100-clause-text g c = rw (decimal_digit c.args.hart (omega arith), ← c.hart.view_is, three_digits c.args.victim (omega arith) (omega arith)) (rw c.byte_digits.ensures at c.put-else-victim-lt100.ensures.text)
