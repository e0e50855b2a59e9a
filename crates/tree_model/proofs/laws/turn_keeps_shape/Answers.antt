use Rattle.tree_model.proofs.FrameKept.{turn-frame, turn-shape, run-shape}
use Rattle.tree_model.proofs.laws.turn_keeps_shape.Goals as goal

pub returns-clause-frame : goal.returns-clause-frame
returns-clause-frame c = turn-frame

pub returns-clause-shape : goal.returns-clause-shape
returns-clause-shape c = turn-shape

pub returns-clause-runs : goal.returns-clause-runs
returns-clause-runs c = run-shape
