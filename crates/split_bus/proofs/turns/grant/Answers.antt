use Rattle.std.proofs.Common.{map}
use Rattle.split_bus.proofs.Ruled.{stays-ruled, busy-reason}
use Rattle.split_bus.proofs.turns.grant.Goals as goal

pub returns-clause-rules : goal.returns-clause-rules
returns-clause-rules g c = stays-ruled c.args.above c.args.turn (g.P.Parent.state c.args.parent.now) (map g.C.Agent.value c.args.children.now) _ _ _ c.grant_into.ensures

pub returns-clause-busy : goal.returns-clause-busy
returns-clause-busy g c = busy-reason c.args.above c.args.turn (g.P.Parent.state c.args.parent.now) (map g.C.Agent.value c.args.children.now) _ _ _ c.grant_into.ensures
