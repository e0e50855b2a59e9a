use Rattle.std.proofs.Common.{sym}
use Rattle.leaf_protocol.proofs.Steps.{step_asks}
use Rattle.leaf_protocol.proofs.leaf.Leaf.asked.Goals as goal

pub returns : goal.returns
returns g c = sym (step_asks _ _ _ _ _ c.ask.result c.requires (c.ask.ensures c.args.self.now.hart))
