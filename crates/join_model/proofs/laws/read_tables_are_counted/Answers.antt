use Rattle.join_model.proofs.Counted.{read-counted}
use Rattle.join_model.proofs.laws.read_tables_are_counted.Goals as goal

pub returns : goal.returns
returns c = read-counted
