use Rattle.std.proofs.Common.{refl}
use Rattle.worked_examples.specs.Computing.{examples_compute}
use Rattle.worked_examples.proofs.an_inject_for_several_readers.Goals as goal

pub returns : goal.returns
unfolding examples_compute
returns c = record {
  trace = refl;
  counts = refl;
  item = refl;
  keys = refl;
}
