-- One name that opens every definition of recorded runs and all that they stand on. The run of a whole seed stays shut: there are too
-- many turns to be listed.
use Rattle.outcome_model.specs.Computing.{outcomes_compute}
use Rattle.outcome_model.specs.Halted.{all_halted}
use Rattle.recording_model.specs.Doing.{does_something}
use Rattle.recording_model.specs.LetBy.{skew_from, skewed_draws, draws_of}
use Rattle.recording_model.specs.Recording.{recording_from}

-- Where a proof says `unfolding recordings_compute`, recorded runs compute.
unfoldable pub recordings_compute : Unit {0}
unfolding outcomes_compute all_halted does_something skew_from skewed_draws draws_of recording_from
recordings_compute = tt
