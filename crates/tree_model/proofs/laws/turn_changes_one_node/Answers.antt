use Rattle.tree_model.proofs.TurnChanges.{turn-changes_one_node, turn-changes_nothing}
use Rattle.tree_model.proofs.laws.turn_changes_one_node.Goals as goal

pub returns-clause-there : goal.returns-clause-there
returns-clause-there c = turn-changes_one_node

pub returns-clause-absent : goal.returns-clause-absent
returns-clause-absent c = turn-changes_nothing
