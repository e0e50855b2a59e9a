use Rattle.std.proofs.Common.{◌∙◌}
use Rattle.leaf_protocol.proofs.Told.{first-reply, first-inside}
use Rattle.leaf_protocol.proofs.agent.LeafAgent.first_reply.Goals as goal

pub returns-clause-value : goal.returns-clause-value
returns-clause-value g c = rw (← c.self.view_is) (c.copied.ensures ∙ (c.first.ensures ∙ first-reply c.self.inside.replies.list))

pub returns-clause-in_range : goal.returns-clause-in_range
returns-clause-in_range g c = rw (c.copied.ensures, c.first.ensures, ← c.self.view_is, c.self.invariant.items) (first-inside c.self.inside.replies.items c.self.inside.replies.list c.self.invariant.replies_inside)
