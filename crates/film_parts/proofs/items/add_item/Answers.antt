use Rattle.film_parts.specs.DdmText.Adds.{alone}
use Rattle.film_parts.proofs.LeafWords.{told_part}
use Rattle.film_parts.proofs.items.add_item.Goals as goal

pub returns : goal.returns
returns c = λ i more rest is records plain.
    let put = c.in_ok-left.ensures i more rest is records plain in
    (put.0, record { told = told_part _ _ _ _ _ _ c.in_ok-end.ensures c.in_ok-begin_one.ensures.key (alone put.1.added c.in_ok-begin_one.ensures.value); left = put.1.left })
