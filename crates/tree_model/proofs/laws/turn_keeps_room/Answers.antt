use Rattle.tree_model.proofs.RoomsKept.{turn-rooms, run-rooms}
use Rattle.tree_model.proofs.laws.turn_keeps_room.Goals as goal

pub returns-clause-turns : goal.returns-clause-turns
returns-clause-turns c = turn-rooms

pub returns-clause-runs : goal.returns-clause-runs
returns-clause-runs c = run-rooms
