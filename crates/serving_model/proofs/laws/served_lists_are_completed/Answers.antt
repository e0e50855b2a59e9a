use Rattle.serving_model.proofs.ServedLegal.{served-completed}
use Rattle.serving_model.proofs.laws.served_lists_are_completed.Goals as goal

pub returns : goal.returns
returns c = served-completed
