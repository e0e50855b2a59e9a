use Rattle.machine_states.proofs.Table.{started-right}
use Rattle.machine_states.proofs.laws.tables_are_right.Goals as goal

pub returns : goal.returns
returns c = started-right
