use Rattle.std.proofs.Common.{refl}
use Rattle.serving_model.specs.Computing.{serving_computes}
use Rattle.serving_model.proofs.examples.three_levels.Goals as goal

pub returns : goal.returns
unfolding serving_computes
returns c = record { text = refl; rests = refl }
