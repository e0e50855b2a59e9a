use Rattle.film_parts.proofs.ListEntries.{copy_put}
use Rattle.film_parts.proofs.lists.push_copy.Goals as goal

pub returns : goal.returns
returns c = λ cv rest is form. copy_put _ _ _ rest cv c.args.width is form.count c.in_ok-push_bytes.ensures c.in_ok-push_next_number.ensures.left c.in_ok-push_next_number.ensures.text c.in_ok-push_next_words.ensures.left c.in_ok-push_next_words.ensures.text
