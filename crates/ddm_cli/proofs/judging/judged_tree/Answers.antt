use Rattle.ddm_cli.proofs.AcceptedTrees.{accepted_tree}
use Rattle.ddm_cli.proofs.Judged.{tree_taken}
use Rattle.ddm_cli.proofs.judging.judged_tree.Goals as goal

pub returns-in-Ok-clause-found : goal.returns-in-Ok-clause-found
returns-in-Ok-clause-found c = tree_taken c.args.bytes.now c.in-Ok.tree c.in-Ok.ensures.tree

pub returns-in-Ok-clause-tree : goal.returns-in-Ok-clause-tree
returns-in-Ok-clause-tree c = accepted_tree c.args.bytes.now c.in-Ok.tree c.in-Ok.ensures.tree
