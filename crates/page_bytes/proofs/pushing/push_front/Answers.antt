use Rattle.page_bytes.specs.Page.{front_parts, page_front}
use Rattle.page_bytes.proofs.Parts.{with_all}
use Rattle.page_bytes.proofs.pushing.push_front.Goals as goal

pub returns : goal.returns
unfolding page_front
returns c = with_all front_parts c.parts.number c.args.out.now.items c.parts.out.items c.in_default.ensures.end c.parts.invariant
