use Rattle.join_model.proofs.ReadBack.{printed-read}
use Rattle.join_model.proofs.laws.printed_tables_are_read.Goals as goal

pub returns : goal.returns
returns c = printed-read
