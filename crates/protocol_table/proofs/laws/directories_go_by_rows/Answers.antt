use Rattle.protocol_table.proofs.Told.{directories-go}
use Rattle.protocol_table.proofs.laws.directories_go_by_rows.Goals as goal

pub returns : goal.returns
returns c = directories-go
