use Rattle.std.proofs.Common.{◌≡◌, [], drop}
use Rattle.litmus_model.specs.Init.{givens_from}
use Rattle.litmus_read.proofs.init.givens_of.Given as goal

abbrev pub invariant-loop-piece : goal.invariant-loop-piece
invariant-loop-piece l = givens_from l.threads [] l.pieces ≡ givens_from l.threads l.givens.items (drop l.piece-index l.pieces)
