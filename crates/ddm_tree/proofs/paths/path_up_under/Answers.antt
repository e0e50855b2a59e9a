use Rattle.std.proofs.Common.{refl, []}
use Rattle.ddm_tree.proofs.Steps.{own-few, kids-fit}
use Rattle.ddm_tree.proofs.paths.path_up_under.Goals as goal

pub path_up_among-requires-clause-few : goal.path_up_among-requires-clause-few
path_up_among-requires-clause-few g c = own-few g.C.Agent.value (g.P.Parent.state c.args.parent.now) c.args.children.now [] refl c.requires

pub path_up_among-requires-clause-buses : goal.path_up_among-requires-clause-buses
path_up_among-requires-clause-buses g c = kids-fit g.C.Agent.value (g.P.Parent.state c.args.parent.now) c.args.children.now c.requires
