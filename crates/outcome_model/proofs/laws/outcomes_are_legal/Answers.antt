use Rattle.outcome_model.proofs.Legal.{outcomes-legal}
use Rattle.outcome_model.proofs.laws.outcomes_are_legal.Goals as goal

pub returns : goal.returns
returns c = outcomes-legal
