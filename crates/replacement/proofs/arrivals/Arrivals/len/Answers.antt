use Rattle.std.proofs.Common.{◌∙◌}
use Rattle.replacement.proofs.Placed.{length_seen}
use Rattle.replacement.proofs.arrivals.Arrivals.len.Goals as goal

pub returns-clause-value : goal.returns-clause-value
returns-clause-value g c = c.len.ensures ∙ c.self.inside.order.ok.0 ∙ length_seen c.self.inside.places.items c.args.self.now c.self.invariant c.self.view_is
