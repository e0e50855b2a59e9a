use Rattle.std.proofs.Common.{◌+◌, List, ℕ, ◌∷◌, take, drop, sym, ap, ◌∙◌, arith}
use Rattle.join_model.specs.Table.{heading_of_words}
use Rattle.join_model.proofs.TextModel.Pieces.{some_piece}
use Rattle.joining.proofs.words.heading_behind_three.Goals as goal

-- there are five words or more
pub returns-else-piece_end-rest : goal.returns-else-piece_end-rest
unfolding heading_of_words
returns-else-piece_end-rest c =
    let rest = c.args.rest.now in
    let end = c.piece_end.result in
    let fifth = some_piece 32 (drop (end + 1) rest) in
    sym (ap (λ (ws : List (List ℕ)). heading_of_words (c.args.kind.now ∷ c.args.lines.now ∷ c.args.mark.now ∷ ws)) (c.piece_end.ensures.more (omega (arith, c.piece_end.ensures.within)) ∙ ap (λ ws. take end rest ∷ ws) fifth.2))
