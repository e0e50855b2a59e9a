use Rattle.std.proofs.Common.{map}
use Rattle.ddm_tree.proofs.Steps.{leaf-on}
use Rattle.ddm_tree.proofs.below.leaf_lengths_under.Goals as goal

pub next-requires-clause-on : goal.next-requires-clause-on
next-requires-clause-on g c = leaf-on c.args.leaf c.args.path.now (g.P.Parent.state c.args.parent.now) (map g.C.Agent.value c.args.children.now) c.requires
