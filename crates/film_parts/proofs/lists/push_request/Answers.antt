use Rattle.film_parts.proofs.ListEntries.{request_put}
use Rattle.film_parts.proofs.lists.push_request.Goals as goal

pub returns : goal.returns
returns c = λ r rest is.
    request_put c.args.words.now c.next-number.new.self _ rest r c.next-number.result c.kind_by-kind.result is c.in_ok-push_bytes.ensures c.in_ok-push_bytes-2.ensures c.next-number.ensures.word
    c.next-number.ensures.left c.kind_by-kind.ensures c.in_ok-push_kind.ensures c.in_ok-push_next_number.ensures.left c.in_ok-push_next_number.ensures.text
