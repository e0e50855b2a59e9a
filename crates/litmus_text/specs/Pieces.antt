-- Pieces of which the first has been begun.
use Rattle.std.specs.Prelude.{List, [], ◌∷◌, ◌++◌}
use Rattle.litmus_model.specs.declared.parts.Token.{Token}
use Rattle.litmus_model.specs.Tokens.{Piece}

-- tokens in front of the first piece
unfoldable pub with_tokens : List Token → List Piece → List Piece
with_tokens ts [] = []
with_tokens ts (p ∷ ps) = record { tokens = ts ++ p.tokens; line = p.line } ∷ ps
