use Rattle.serving_model.proofs.Instruction.{told}
use Rattle.serving_model.proofs.laws.walks_are_told.Goals as goal

pub returns : goal.returns
returns c = told
