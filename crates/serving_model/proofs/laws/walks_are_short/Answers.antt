use Rattle.serving_model.proofs.Short.{instruction-short}
use Rattle.serving_model.proofs.laws.walks_are_short.Goals as goal

pub returns : goal.returns
returns c = instruction-short
