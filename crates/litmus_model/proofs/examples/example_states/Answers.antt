use Rattle.std.proofs.Common.{refl}
use Rattle.litmus_model.specs.Computing.{litmus_tests_compute}
use Rattle.litmus_model.proofs.examples.example_states.Goals as goal

pub returns : goal.returns
unfolding litmus_tests_compute
returns c = record {
  seen = refl;
  forbidden = refl;
  none = refl;
}
