use Rattle.film_parts.specs.DdmText.Adds.{alone}
use Rattle.film_parts.proofs.LeafWords.{told_part}
use Rattle.film_parts.proofs.leaves.add_slot.Goals as goal

pub returns : goal.returns
returns c = λ slot is form. told_part _ _ _ _ _ _ c.in_ok-end.ensures c.in_ok-begin.ensures.key (alone (c.in_ok-push_slot.ensures slot is form) c.in_ok-begin.ensures.value)
