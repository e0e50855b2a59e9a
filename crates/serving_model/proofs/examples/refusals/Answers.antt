use Rattle.std.proofs.Common.{refl}
use Rattle.serving_model.specs.Computing.{serving_computes}
use Rattle.serving_model.proofs.examples.refusals.Goals as goal

pub returns : goal.returns
unfolding serving_computes
returns c = record { no_room = refl; other_word = refl; failing = refl; too_many = refl }
