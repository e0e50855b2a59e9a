use Rattle.film_parts.proofs.ListEntries.{down_put}
use Rattle.film_parts.proofs.lists.push_down.Goals as goal

pub returns : goal.returns
returns c = λ e rest is wide.
    down_put c.args.words.now c.next-number.new.self _ _ _ rest e c.args.level c.args.width c.next-number.result c.kind_by-kind.result c.take-copy.result.now is wide c.in_ok-push_bytes.ensures
    c.in_ok-push_bytes-2.ensures c.next-number.ensures.word c.next-number.ensures.left c.kind_by-kind.ensures c.in_ok-push_kind.ensures c.in_ok-push_next_number.ensures.left
    c.in_ok-push_next_number.ensures.text c.in_ok-push_told_stamp.ensures c.take-copy.ensures.words c.take-copy.ensures.left c.in_ok-push_down_words.ensures
