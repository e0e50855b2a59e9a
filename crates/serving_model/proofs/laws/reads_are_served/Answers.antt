use Rattle.serving_model.proofs.Read.{read-served}
use Rattle.serving_model.proofs.laws.reads_are_served.Goals as goal

pub returns : goal.returns
returns c = read-served
