use Rattle.std.proofs.Common.{refl}
use Rattle.litmus_model.specs.Computing.{litmus_tests_compute}
use Rattle.litmus_model.proofs.examples.small_tests.Goals as goal

pub returns-clause-message_passing : goal.returns-clause-message_passing
unfolding litmus_tests_compute
returns-clause-message_passing c = refl

pub returns-clause-waiting : goal.returns-clause-waiting
unfolding litmus_tests_compute
returns-clause-waiting c = refl

pub returns-clause-conditions : goal.returns-clause-conditions
unfolding litmus_tests_compute
returns-clause-conditions c = refl
