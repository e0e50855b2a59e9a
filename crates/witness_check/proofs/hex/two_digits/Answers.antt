use Rattle.witness_check.proofs.HexCounts.{two_count}
use Rattle.witness_check.proofs.hex.two_digits.Goals as goal

pub returns-clause-value : goal.returns-clause-value
returns-clause-value c = two_count c.args.high c.args.low c.digit.result c.digit-2.result c.digit.ensures c.digit-2.ensures
