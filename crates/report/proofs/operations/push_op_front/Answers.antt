use Rattle.std.proofs.Common.{arith}
use Rattle.std.proofs.lemmas.Fmt.{decimal_digit}
use Rattle.report.proofs.operations.push_op_front.Goals as goal

pub returns-then-hart-lt10-clause-text : goal.returns-then-hart-lt10-clause-text
returns-then-hart-lt10-clause-text g c = rw (decimal_digit c.args.hart (omega arith), ← c.hart.view_is) c.put.ensures.text
