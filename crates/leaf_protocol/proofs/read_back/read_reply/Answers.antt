use Rattle.leaf_protocol.proofs.Told.{below-append}
use Rattle.leaf_protocol.proofs.read_back.read_reply.Goals as goal

pub returns-clause-below : goal.returns-clause-below
returns-clause-below g c = rw c.put.ensures (below-append c.args.items c.args.replies.now.list (c.in_ok-item.item, c.in_ok-copy.copy) c.requires.below c.in_ok-item.ensures.below)
