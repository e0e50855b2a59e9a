use Rattle.std.proofs.Common.{ℕ, ◌+◌, List, ◌∷◌, take, refl, sym, ap, ◌∙◌}
use Rattle.text_model.specs.Schedule.{pieces_at}
use Rattle.witness_check.proofs.Cuts.{first_word, last_word, tail_is}
use Rattle.witness_check.proofs.words.cut_word.Goals as goal

pub returns-in-None : goal.returns-in-None
returns-in-None c = last_word 32 c.args.text.now (sym c.in-None.ensures)

pub returns-in-Some : goal.returns-in-Some
returns-in-Some c =
    let text = c.args.text.now in
    let end = c.in-Some.end in
    first_word 32 text end refl (sym c.in-Some.ensures) ∙ ap (λ (t : List ℕ). take end text ∷ pieces_at 32 t) (sym (tail_is text (end + 1)))
