use Rattle.std.proofs.Common.{◌≡◌, ◌+◌, ◌∷◌, [], take, refl, ap, subst, ◌∙◌}
use Rattle.film_parts.specs.DdmText.Adds.{Adds}
use Rattle.film_parts.specs.DdmTypes.Keys.{stamp_at}
use Rattle.film_parts.specs.StateWords.Numbers.{stamp_words}
use Rattle.film_model.specs.Part.{stamp_text}
use Rattle.film_parts.proofs.ListSteps.{first_word, next_words}
use Rattle.film_parts.proofs.buses.push_time.Goals as goal

pub returns : goal.returns
returns c = λ count epoch rest is.
    let w1 = next_words c.next-count.ensures.left is in
    let w2 = next_words c.next-s0.ensures.left w1 in
    let w3 = next_words c.next-s1.ensures.left w2 in
    let w4 = next_words c.next-s2.ensures.left w3 in
    let above : c.next-s0.result ∷ c.next-s1.result ∷ c.next-s2.result ∷ c.next-s3.result ∷ [] ≡ stamp_words epoch =
    rw (first_word c.next-s0.ensures.word w1, first_word c.next-s1.ensures.word w2, first_word c.next-s2.ensures.word w3, first_word c.next-s3.ensures.word w4) refl
    in
    let level = c.args.level in
    record {
      added =
          subst (λ ns. Adds c.args.out.now.items c.push_stamp.new.out.items (stamp_text ns))
          (c.first_of.ensures ∙ ap (take (level + 1)) (c.present-numbers.ensures epoch above)
          ∙ ap (λ n. take (level + 1) (stamp_words (stamp_at epoch level n))) (first_word c.next-count.ensures.word is)) c.in_ok-push_stamp.ensures;
      left = next_words c.next-s3.ensures.left w4;
    }
