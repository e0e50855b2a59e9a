use Rattle.std.proofs.Common.{◌++◌}
use Rattle.film_parts.proofs.Spans.{parts-pushed, spans-more, spans-pushed}
use Rattle.film_parts.proofs.still.Still.push.Goals as goal

pub invariant_of-self-in_err-extend_from_slice-2 : goal.invariant_of-self-in_err-extend_from_slice-2
invariant_of-self-in_err-extend_from_slice-2 c =
    rw (c.in_err-extend_from_slice-2.ensures.items, c.in_ok-extend_from_slice.ensures.items) (spans-more c.self.inside.spans.items c.self.inside.text.items c.args.key.now c.self.invariant)

pub invariant_of-self-in_err-push : goal.invariant_of-self-in_err-push
invariant_of-self-in_err-push c =
    rw (c.in_err-push.ensures.items, c.in_ok-extend_from_slice-2.ensures.items, c.in_ok-extend_from_slice.ensures.items)
    (spans-more c.self.inside.spans.items (c.self.inside.text.items ++ c.args.key.now) c.args.value.now (spans-more c.self.inside.spans.items c.self.inside.text.items c.args.key.now c.self.invariant))

pub invariant_of-self-2 : goal.invariant_of-self-2
invariant_of-self-2 c =
    rw (c.in_ok-push.ensures.items, c.len-start.ensures, c.len-middle.ensures, c.len-end.ensures, c.self.inside.text.ok.0, c.extend_from_slice.new.self.ok.0, c.extend_from_slice-2.new.self.ok.0, c.in_ok-extend_from_slice-2.ensures.items, c.in_ok-extend_from_slice.ensures.items)
    (spans-pushed c.self.inside.spans.items c.self.inside.text.items c.args.key.now c.args.value.now c.self.invariant)

pub returns : goal.returns
returns c =
    rw (c.in_ok-push.ensures.items, c.len-start.ensures, c.len-middle.ensures, c.len-end.ensures, c.self.inside.text.ok.0, c.extend_from_slice.new.self.ok.0, c.extend_from_slice-2.new.self.ok.0, c.in_ok-extend_from_slice-2.ensures.items, c.in_ok-extend_from_slice.ensures.items, ← c.self.view_is)
    (parts-pushed c.self.inside.spans.items c.self.inside.text.items c.args.key.now c.args.value.now c.self.invariant)
