use Rattle.std.proofs.Common.{◌≡◌, ◌++◌, drop}
use Rattle.litmus_model.specs.Tokens.{parts_of}
use Rattle.litmus_text.proofs.pieces.parts_of.Given as goal

abbrev pub invariant-loop-token : goal.invariant-loop-token
invariant-loop-token l = parts_of l.tokens ≡ l.parts.items ++ parts_of (drop l.token-index l.tokens)
