use Rattle.serving_model.proofs.Erase.{erase-served}
use Rattle.serving_model.proofs.laws.erases_are_served.Goals as goal

pub returns : goal.returns
returns c = erase-served
