use Rattle.std.proofs.Common.{append_assoc, arith}
use Rattle.std.proofs.lemmas.Fmt.{decimal_digit}
use Rattle.report.specs.DdmText.Adds.{◌▸◌}
use Rattle.report.proofs.operations.push_long_level.Goals as goal

pub returns-then-child-lt10-clause-text : goal.returns-then-child-lt10-clause-text
returns-then-child-lt10-clause-text g c = rw (decimal_digit c.args.child (omega arith)) (simp append_assoc (c.in_ok-push_number.ensures.text ▸ c.in_ok-put.ensures.text))
