use Rattle.std.proofs.Common.{sym}
use Rattle.leaf_protocol.proofs.Deeds.{halt-deed}
use Rattle.leaf_protocol.proofs.leaf.Leaf.try_next.Goals as goal

pub returns-in-Halt : goal.returns-in-Halt
returns-in-Halt g c = rw (halt-deed c.args.code.now c.args.items.now c.args.victim c.args.self.now c.in-Halt.cause (sym c.in-Halt.ensures)) (c.halt.ensures c.args.now)
