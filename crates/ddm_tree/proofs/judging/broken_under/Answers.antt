use Rattle.std.proofs.Common.{◌∙◌}
use Rattle.ddm_tree.proofs.JudgedItems.{own-broken}
use Rattle.ddm_tree.proofs.Steps.{own-path}
use Rattle.ddm_tree.proofs.judging.broken_under.Goals as goal

pub returns-then-is_empty : goal.returns-then-is_empty
returns-then-is_empty g c = c.broken_item.ensures ∙ own-broken g.C.Agent.value (g.P.Parent.state c.args.parent.now) c.args.children.now c.args.items c.requires.judged c.args.path.now (own-path c.args.path.now c.is_empty.result c.is_empty.ensures c.if-is_empty.true)
