use Rattle.std.proofs.Common.{refl}
use Rattle.serving_model.specs.Computing.{serving_computes}
use Rattle.serving_model.proofs.examples.reservations.Goals as goal

pub returns : goal.returns
unfolding serving_computes
returns c = record { kept = refl; lost = refl }
