use Rattle.std.proofs.Common.{refl}
use Rattle.outcome_model.specs.Computing.{outcomes_compute}
use Rattle.litmus_model.specs.Computing.{litmus_tests_compute}
use Rattle.litmus_states.specs.States.{has_faulted, hart_on, item_word, observed_word, observed_words, run_states, states_in, test_end, times_of}
use Rattle.outcome_model.specs.Halted.{all_halted}
use Rattle.litmus_states.proofs.examples.small_states.Goals as goal

pub returns : goal.returns
unfolding outcomes_compute litmus_tests_compute all_halted has_faulted hart_on item_word observed_word observed_words run_states states_in test_end times_of
returns c = record {
  before = refl;
  stopped = refl;
  faulted = refl;
  runs = refl;
}
