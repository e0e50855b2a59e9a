use Rattle.witness_check.proofs.HexCounts.{four_count}
use Rattle.witness_check.proofs.hex.four_digits.Goals as goal

pub returns-clause-value : goal.returns-clause-value
returns-clause-value c = four_count c.args.a c.args.b c.args.c c.args.d c.two_digits.result c.two_digits-2.result c.two_digits.ensures.value c.two_digits-2.ensures.value
