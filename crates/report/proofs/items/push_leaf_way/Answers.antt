use Rattle.std.proofs.Common.{arith}
use Rattle.std.proofs.lemmas.Fmt.{decimal_digit}
use Rattle.report.proofs.items.push_leaf_way.Goals as goal

pub returns-then-way-lt10-clause-text : goal.returns-then-way-lt10-clause-text
returns-then-way-lt10-clause-text g c = rw (decimal_digit c.args.leaf (omega arith), decimal_digit c.args.way (omega arith), ← c.leaf.view_is) c.put.ensures.text
