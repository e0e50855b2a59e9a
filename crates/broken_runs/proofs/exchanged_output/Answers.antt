use Rattle.std.specs.Prelude.{Bool, nat_eq, List, ℕ, slice_index_or}
use Rattle.std.proofs.Common.{refl, ap}
use Rattle.std.proofs.lemmas.Bool.{true≢false, false≢true}
use Rattle.text_model.specs.Computing.{runs_compute}
use Rattle.text_model.specs.Run.{HasWitnessedOutput}
use Rattle.broken_runs.specs.BrokenOutput.{putting, with_one_more, two_exchanged, another_before}
use Rattle.broken_runs.proofs.exchanged_output.Goals as goal

-- the second digit of the first byte
digit_is_9 : List ℕ → Bool
digit_is_9 text = nat_eq (slice_index_or text 1 0) 57

refused : ¬ HasWitnessedOutput (putting two_exchanged)
unfolding runs_compute digit_is_9
refused w = true≢false (ap digit_is_9 (w 0))

in_the_end-refused : ¬ HasWitnessedOutput (with_one_more another_before)
unfolding runs_compute digit_is_9
in_the_end-refused w = false≢true (ap digit_is_9 (w 0))

pub returns : goal.returns
unfolding runs_compute
returns c = record {
  output_exchanged = record { refused = refused; in_the_end = refl; at_first_refused = λ w. refused (w 0); before = λ h. refl; in_the_end_refused = λ w. in_the_end-refused (w 1) };
}
