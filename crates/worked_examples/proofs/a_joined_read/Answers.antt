use Rattle.std.proofs.Common.{refl}
use Rattle.worked_examples.specs.Computing.{examples_compute}
use Rattle.worked_examples.proofs.a_joined_read.Goals as goal

pub returns : goal.returns
unfolding examples_compute
returns c = record {
  trace = refl;
  keys = refl;
  letters = refl;
}
