use Rattle.std.proofs.Common.{ap}
use Rattle.tx_queue.proofs.Counts.{counted_range}
use Rattle.tx_queue.proofs.queue.Queue.first.Goals as goal

pub returns-clause-in_range : goal.returns-clause-in_range
returns-clause-in_range g c = counted_range g.T.Named.named _ _ _ _ _ c.self.invariant c.front.ensures (ap (λ q. q.items) c.self.view_is)
