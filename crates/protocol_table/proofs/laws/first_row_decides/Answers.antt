use Rattle.protocol_table.proofs.Turns.{first-decides, none-decides, nothing-decides}
use Rattle.protocol_table.proofs.laws.first_row_decides.Goals as goal

pub returns-clause-row : goal.returns-clause-row
returns-clause-row c = first-decides

pub returns-clause-none : goal.returns-clause-none
returns-clause-none c = none-decides

pub returns-clause-nothing : goal.returns-clause-nothing
returns-clause-nothing c = nothing-decides
