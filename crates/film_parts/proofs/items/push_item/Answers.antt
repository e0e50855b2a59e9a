use Rattle.std.proofs.Common.{nat_eq}
use Rattle.film_parts.proofs.DirItems.{next_is_recorded, other_is_not, plain_put, recorded_put}
use Rattle.film_parts.proofs.items.push_item.Goals as goal

pub returns-then-is_next : goal.returns-then-is_next
returns-then-is_next c = λ i more rest is count plain.
    let top = nat_eq c.args.shape.now.level 0 in
    let next = c.is_next.ensures.yes c.if-is_next.true in
    recorded_put top c.args.words.now rest c.args.item i more c.args.records is count c.args.shape.now.children
    (next_is_recorded top c.args.words.now rest c.args.item i more c.args.records is count next.0 next.1) c.in_ok-push_record.ensures

pub returns : goal.returns
returns c = λ i more rest is count plain.
    let top = nat_eq c.args.shape.now.level 0 in
    plain_put top c.args.words.now rest c.args.item i more c.args.records is count c.args.shape.now.children
    (other_is_not top c.args.words.now rest c.args.item i more c.args.records is count c.is_next.result c.if-is_next.false c.is_next.ensures.no) plain c.in_ok-push_unrecorded.ensures
