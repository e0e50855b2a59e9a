use Rattle.join_model.proofs.OutcomeTexts.{outcomes-texts}
use Rattle.join_model.proofs.laws.outcomes_are_texts.Goals as goal

pub returns : goal.returns
returns c = outcomes-texts
