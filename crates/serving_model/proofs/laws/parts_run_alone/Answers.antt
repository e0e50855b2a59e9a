use Rattle.serving_model.proofs.Steps.{runs-machine}
use Rattle.serving_model.proofs.laws.parts_run_alone.Goals as goal

pub returns : goal.returns
returns c = runs-machine
