use Rattle.join_model.proofs.OutcomeTexts.{joined-outcomes}
use Rattle.join_model.proofs.laws.joined_outcomes_are_one.Goals as goal

pub returns : goal.returns
returns c = joined-outcomes
