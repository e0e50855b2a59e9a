use Rattle.ddm_tree.specs.Quiet.{IsTouched}
use Rattle.ddm_tree.proofs.OneBus.{leaf-learned}
use Rattle.ddm_tree.proofs.leaf.LeafSubtree.learn_below.Goals as goal

pub returns-clause-learned : goal.returns-clause-learned
returns-clause-learned g c = leaf-learned (IsTouched c.args._answer.now c.args._path.now) c.args.self.now c.args._known.now
