use Rattle.leaf_protocol.proofs.Reading.{way-found}
use Rattle.leaf_protocol.proofs.entries.Entries.free_way.Goals as goal

pub returns-clause-way : goal.returns-clause-way
returns-clause-way g c = rw (← c.self.view_is) (way-found c.self.invariant c.args.item c.free_way.result c.free_way.ensures.lowest c.free_way.ensures.full)
