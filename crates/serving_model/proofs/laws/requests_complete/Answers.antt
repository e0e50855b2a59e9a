use Rattle.serving_model.proofs.Completing.{completed}
use Rattle.serving_model.proofs.laws.requests_complete.Goals as goal

pub returns : goal.returns
returns c = completed
