use Rattle.std.proofs.Common.{ℕ, ◌+◌, List, ◌∷◌, take, drop, sym, ap, ◌∙◌, arith}
use Rattle.text_model.specs.Schedule.{turn_of_words}
use Rattle.text_model.proofs.Pieces.{some_piece}
use Rattle.schedule_log.proofs.words.turn_behind_four.Goals as goal

-- there are six words or more
pub returns-else-word_end-rest : goal.returns-else-word_end-rest
unfolding turn_of_words
returns-else-word_end-rest c =
    let rest = c.args.rest.now in
    let end = c.word_end.result in
    let sixth = some_piece 32 (drop (end + 1) rest) in
    sym (ap (λ (ws : List (List ℕ)). turn_of_words (c.args.mark.now ∷ c.args.bus.now ∷ c.args.kind.now ∷ c.args.child.now ∷ ws)) (c.word_end.ensures.more (omega (arith, c.word_end.ensures.within)) ∙ ap (λ ws. take end rest ∷ ws) sixth.2))
