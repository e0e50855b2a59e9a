use Rattle.film_parts.specs.DdmText.Adds.{alone}
use Rattle.film_parts.proofs.DirWords.{count_told}
use Rattle.film_parts.proofs.LeafWords.{told_part}
use Rattle.film_parts.proofs.ListSteps.{first_word, next_words}
use Rattle.film_parts.proofs.buses.add_kept.Goals as goal

pub returns : goal.returns
returns c = λ kept rest is.
    let put = count_told (first_word c.next-kept.ensures.word is) c.in_ok-push_count.ensures in
    record { told = told_part _ _ _ _ _ _ c.in_ok-end.ensures c.in_ok-begin.ensures.key (alone put c.in_ok-begin.ensures.value); left = next_words c.next-kept.ensures.left is }
