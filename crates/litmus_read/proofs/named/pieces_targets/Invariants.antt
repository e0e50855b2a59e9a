use Rattle.std.proofs.Common.{◌≡◌, drop}
use Rattle.litmus_model.specs.Condition.{pieces_targets}
use Rattle.litmus_text.specs.Reads.{behind}
use Rattle.litmus_read.proofs.named.pieces_targets.Given as goal

abbrev pub invariant-loop-piece : goal.invariant-loop-piece
invariant-loop-piece l = pieces_targets l.threads l.pieces ≡ behind l.named.items (pieces_targets l.threads (drop l.piece-index l.pieces))
