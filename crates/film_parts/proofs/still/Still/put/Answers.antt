use Rattle.film_parts.proofs.Spans.{parts-put, spans-more, spans-put}
use Rattle.film_parts.proofs.still.Still.put.Goals as goal

pub invariant_of-self-in_err-extend_from_slice-2 : goal.invariant_of-self-in_err-extend_from_slice-2
invariant_of-self-in_err-extend_from_slice-2 c =
    rw (c.in_err-extend_from_slice-2.ensures.items, c.in_ok-extend_from_slice.ensures.items) (spans-more c.self.inside.spans.items c.self.inside.text.items c.args.key.now c.self.invariant)

pub invariant_of-self-2 : goal.invariant_of-self-2
invariant_of-self-2 c =
    rw (c.len-start.ensures, c.len-middle.ensures, c.len-end.ensures, c.self.inside.text.ok.0, c.extend_from_slice.new.self.ok.0, c.extend_from_slice-2.new.self.ok.0, c.in_ok-extend_from_slice-2.ensures.items, c.in_ok-extend_from_slice.ensures.items)
    (spans-put c.self.inside.spans.items c.args.place c.self.inside.text.items c.args.key.now c.args.value.now c.self.invariant)

pub returns : goal.returns
returns c =
    rw (c.len-start.ensures, c.len-middle.ensures, c.len-end.ensures, c.self.inside.text.ok.0, c.extend_from_slice.new.self.ok.0, c.extend_from_slice-2.new.self.ok.0, c.in_ok-extend_from_slice-2.ensures.items, c.in_ok-extend_from_slice.ensures.items, ← c.self.view_is)
    (parts-put c.self.inside.spans.items c.args.place c.self.inside.text.items c.args.key.now c.args.value.now c.self.invariant)
