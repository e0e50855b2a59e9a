use Rattle.std.proofs.Common.{arith}
use Rattle.std.proofs.lemmas.Fmt.{decimal_digit}
use Rattle.report.proofs.trace.push_child_turn.Goals as goal

pub returns-then-child-lt10-clause-text : goal.returns-then-child-lt10-clause-text
returns-then-child-lt10-clause-text g c = rw (decimal_digit c.args.bus (omega arith), decimal_digit c.args.child (omega arith), ← c.bus.view_is, ← c.child.view_is) c.put.ensures.text
