use Rattle.join_model.proofs.Joining.{joined-right}
use Rattle.join_model.proofs.laws.joined_tables_are_right.Goals as goal

pub returns : goal.returns
returns c = joined-right
