use Rattle.std.proofs.Common.{sym, arith}
use Rattle.ddm_tree.proofs.Steps.{own-path, own-children, own-few}
use Rattle.ddm_tree.proofs.below.children_under.Goals as goal

pub overflow_cast-result : goal.overflow_cast-result
overflow_cast-result g c =
    let few = own-few g.C.Agent.value (g.P.Parent.state c.args.parent.now) c.args.children.now c.args.path.now (own-path c.args.path.now c.is_empty.result c.is_empty.ensures c.if-is_empty.true) c.requires.buses in
    omega (arith, few)

pub returns-then-is_empty : goal.returns-then-is_empty
returns-then-is_empty g c = sym (own-children g.C.Agent.value (g.P.Parent.state c.args.parent.now) c.args.children.now c.args.path.now (own-path c.args.path.now c.is_empty.result c.is_empty.ensures c.if-is_empty.true))

pub children_below-requires-clause-buses : goal.children_below-requires-clause-buses
children_below-requires-clause-buses g c = c.next.ensures.fits c.requires.buses
