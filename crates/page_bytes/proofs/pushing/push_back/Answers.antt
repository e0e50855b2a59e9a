use Rattle.page_bytes.specs.Page.{back_parts, page_back}
use Rattle.page_bytes.proofs.Parts.{with_all}
use Rattle.page_bytes.proofs.pushing.push_back.Goals as goal

pub returns : goal.returns
unfolding page_back
returns c = with_all back_parts c.parts.number c.args.out.now.items c.parts.out.items c.in_default.ensures.end c.parts.invariant
