use Rattle.film_parts.specs.DdmText.Adds.{alone}
use Rattle.film_parts.proofs.LeafWords.{told_part}
use Rattle.film_parts.proofs.leaves.add_leaf_replies.Goals as goal

pub returns : goal.returns
returns c = λ cs rest is form.
    let put = c.in_ok-push_copies.ensures cs rest is form in
    record { told = told_part _ _ _ _ _ _ c.in_ok-end.ensures c.in_ok-begin.ensures.key (alone put.added c.in_ok-begin.ensures.value); left = put.left }
