use Rattle.std.proofs.Common.{refl}
use Rattle.worked_examples.specs.Computing.{examples_compute}
use Rattle.worked_examples.proofs.seeded_schedule.Goals as goal

pub returns : goal.returns
unfolding examples_compute
returns c = record {
  words = refl;
  text = refl;
}
