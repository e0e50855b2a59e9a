use Rattle.join_model.proofs.OneTable.{one-table}
use Rattle.join_model.proofs.laws.a_table_is_one.Goals as goal

pub returns : goal.returns
returns c = one-table
