use Rattle.protocol_table.proofs.Grid.{grid-holds, grid-lost, grid-asks_when_lost, grid-data, grid-asks_with_data}
use Rattle.protocol_table.proofs.Grid.{grid-exclusive, grid-inject, grid-answers, grid-waits, grid-leaves}
use Rattle.protocol_table.proofs.laws.states_are_the_grid.Goals as goal

pub returns-clause-holds : goal.returns-clause-holds
returns-clause-holds c = grid-holds

pub returns-clause-lost : goal.returns-clause-lost
returns-clause-lost c = grid-lost

pub returns-clause-asks_when_lost : goal.returns-clause-asks_when_lost
returns-clause-asks_when_lost c = grid-asks_when_lost

pub returns-clause-data : goal.returns-clause-data
returns-clause-data c = grid-data

pub returns-clause-asks_with_data : goal.returns-clause-asks_with_data
returns-clause-asks_with_data c = grid-asks_with_data

pub returns-clause-exclusive : goal.returns-clause-exclusive
returns-clause-exclusive c = grid-exclusive

pub returns-clause-inject : goal.returns-clause-inject
returns-clause-inject c = grid-inject

pub returns-clause-answers : goal.returns-clause-answers
returns-clause-answers c = grid-answers

pub returns-clause-waits : goal.returns-clause-waits
returns-clause-waits c = grid-waits

pub returns-clause-leaves : goal.returns-clause-leaves
returns-clause-leaves c = grid-leaves
