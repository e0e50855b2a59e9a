use Rattle.std.proofs.Common.{subst}
use Rattle.tree_config.specs.Levels.{IsShape}
use Rattle.tree_config.specs.Ranges.{IsInRange}
use Rattle.run_engine.proofs.TreeStart.{tree-is}
use Rattle.run_engine.proofs.tree.levels.Goals as goal

pub returns-clause-tree : goal.returns-clause-tree
returns-clause-tree c = tree-is c.args.tree.now (subst (λ u. IsShape u.levels) c.tree.view_is c.depth.ensures.shape) (subst IsInRange c.tree.view_is c.tree.invariant)
