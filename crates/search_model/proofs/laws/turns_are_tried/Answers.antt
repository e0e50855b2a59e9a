use Rattle.search_model.proofs.TriedTurns.{each-tried, none-left, states-are-runs}
use Rattle.search_model.proofs.laws.turns_are_tried.Goals as goal

pub returns-clause-tried : goal.returns-clause-tried
returns-clause-tried c = each-tried

pub returns-clause-none : goal.returns-clause-none
returns-clause-none c = none-left

pub returns-clause-states : goal.returns-clause-states
returns-clause-states c = states-are-runs
