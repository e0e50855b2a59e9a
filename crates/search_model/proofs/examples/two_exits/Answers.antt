use Rattle.std.proofs.Common.{refl}
use Rattle.search_model.specs.Computing.{searches_compute}
use Rattle.search_model.proofs.examples.two_exits.Goals as goal

pub returns : goal.returns
unfolding searches_compute
returns c = record {
  all = refl;
  just = refl;
  few = refl;
  line = refl;
  no_line = refl;
}
