use Rattle.std.proofs.Common.{sym}
use Rattle.leaf_protocol.proofs.Ways.{ways_of-length}
use Rattle.leaf_protocol.proofs.entries.Entries.items.Goals as goal

pub returns : goal.returns
returns g c = rw (← c.self.view_is) (sym (ways_of-length c.self.inside.items c.self.inside.memory))
