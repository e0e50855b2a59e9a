use Rattle.std.proofs.Common.{◌≡◌, ◌++◌, drop}
use Rattle.litmus_model.specs.Tokens.{pieces_at}
use Rattle.litmus_text.specs.Pieces.{with_tokens}
use Rattle.litmus_text.proofs.pieces.pieces_at.Given as goal

abbrev pub invariant-loop-token : goal.invariant-loop-token
invariant-loop-token l = pieces_at l.mark l.end l.tokens ≡ l.pieces.items ++ with_tokens l.begun.items (pieces_at l.mark l.end (drop l.token-index l.tokens))
