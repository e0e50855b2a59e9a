use Rattle.std.proofs.Common.{refl}
use Rattle.join_model.specs.Computing.{joins_compute}
use Rattle.join_model.proofs.examples.small_refusals.Goals as goal

pub returns : goal.returns
unfolding joins_compute
returns c = record {
  empty = refl;
  cut = refl;
  heading = refl;
  zero = refl;
  none = refl;
  short_of_lines = refl;
  more_lines = refl;
  more_runs = refl;
  fewer_runs = refl;
  seed = refl;
  behind = refl;
}
