use Rattle.film_parts.proofs.ListEntries.{buffered_put}
use Rattle.film_parts.proofs.lists.push_buffered.Goals as goal

pub returns : goal.returns
returns c = λ e rest is form.
    buffered_put c.args.words.now _ c.next-number.new.self _ rest e c.args.width c.next-number.result c.state_by-state.result c.take-copy.result.now is form.count c.in_ok-push_bytes.ensures
    c.in_ok-push_next_number.ensures.left c.in_ok-push_next_number.ensures.text c.in_ok-push_bytes-2.ensures c.next-number.ensures.word c.next-number.ensures.left c.state_by-state.ensures
    c.in_ok-push_letter.ensures c.take-copy.ensures.words c.take-copy.ensures.left c.in_ok-push_entry_words.ensures
