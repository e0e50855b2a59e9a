use Rattle.std.proofs.Common.{refl}
use Rattle.worked_examples.specs.Computing.{examples_compute}
use Rattle.worked_examples.proofs.one_byte_of_output.Goals as goal

pub returns : goal.returns
unfolding examples_compute
returns c = record {
  trace = refl;
  output = refl;
}
