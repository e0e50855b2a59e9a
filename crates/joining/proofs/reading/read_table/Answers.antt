use Rattle.joining.specs.TextModel.Schedule.{pieces_at}
use Rattle.joining.proofs.ReadLines.{counted-of}
use Rattle.joining.proofs.reading.read_table.Goals as goal

pub returns-clause-counted : goal.returns-clause-counted
returns-clause-counted c = counted-of (pieces_at 10 c.args.text.now) c.table_of.result _ c.table_of.ensures
