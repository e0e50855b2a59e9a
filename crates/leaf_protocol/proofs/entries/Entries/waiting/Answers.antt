use Rattle.std.proofs.Common.{sym}
use Rattle.leaf_protocol.proofs.Fits.{waiting-is}
use Rattle.leaf_protocol.proofs.entries.Entries.waiting.Goals as goal

pub returns : goal.returns
returns g c = rw (← c.self.view_is) (sym (waiting-is c.self.invariant))
