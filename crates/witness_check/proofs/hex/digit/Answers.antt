use Rattle.std.proofs.Common.{arith}
use Rattle.witness_check.proofs.HexCounts.{table_at}
use Rattle.witness_check.proofs.hex.digit.Goals as goal

pub returns : goal.returns
returns c = rw c.from.ensures (table_at c.args.byte (omega arith))
