use Rattle.std.proofs.Common.{refl}
use Rattle.worked_examples.specs.Computing.{examples_compute}
use Rattle.worked_examples.proofs.one_leaf_saved.Goals as goal

pub returns : goal.returns
unfolding examples_compute
returns c = record {
  size = refl;
  head = refl;
  machine = refl;
  exited = refl;
  stored = refl;
  wide = refl;
}
