use Rattle.file_laws.proofs.Trees.{accepted_tree}
use Rattle.file_laws.proofs.laws.accepted_trees.Goals as goal

pub returns : goal.returns
returns c = accepted_tree
