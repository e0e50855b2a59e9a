use Rattle.std.proofs.Common.{◌≡◌, ◌++◌, map, drop}
use Rattle.litmus_model.specs.Tokens.{Piece, parts_of}
use Rattle.litmus_read.proofs.cells.operands_in.Given as goal

abbrev pub invariant-loop-piece : goal.invariant-loop-piece
invariant-loop-piece l =
    map (λ (p : Piece). parts_of p.tokens) l.pieces ≡ l.operands.items ++ map (λ (p : Piece). parts_of p.tokens) (drop l.piece-index l.pieces)
