use Rattle.std.proofs.Common.{◌∙◌}
use Rattle.ddm_tree.proofs.Asking.{asked-sized, asked-few, own-grants, own-child}
use Rattle.ddm_tree.proofs.Steps.{own-path}
use Rattle.ddm_tree.proofs.below.grants_under.Goals as goal

pub would_grant-requires-clause-few : goal.would_grant-requires-clause-few
would_grant-requires-clause-few g c = asked-few g.C.Agent.value (g.P.Parent.state c.args.parent.now) c.args.children.now g.row.WORDS c.requires.askable

pub would_grant-requires-clause-child : goal.would_grant-requires-clause-child
would_grant-requires-clause-child g c = own-child g.C.Agent.value (g.P.Parent.state c.args.parent.now) c.args.children.now c.args.path.now (own-path c.args.path.now c.is_empty.result c.is_empty.ensures c.if-is_empty.true) c.args.turn c.requires.child

pub would_grant-requires-clause-sized : goal.would_grant-requires-clause-sized
would_grant-requires-clause-sized g c = asked-sized g.C.Agent.value (g.P.Parent.state c.args.parent.now) c.args.children.now g.row.WORDS c.requires.askable

pub returns-then-is_empty : goal.returns-then-is_empty
returns-then-is_empty g c above =
    c.would_grant.ensures above ∙ own-grants g.C.Agent.value (g.P.Parent.state c.args.parent.now) c.args.children.now c.args.path.now (own-path c.args.path.now c.is_empty.result c.is_empty.ensures c.if-is_empty.true) c.args.turn above
