use Rattle.std.proofs.Common.{refl}
use Rattle.worked_examples.specs.Computing.{examples_compute}
use Rattle.worked_examples.proofs.store_and_load_back.Goals as goal

pub returns : goal.returns
unfolding examples_compute
returns c = record {
  report = refl;
  trace = refl;
  no_turns = refl;
  wide_items = refl;
  depth_four = refl;
}
