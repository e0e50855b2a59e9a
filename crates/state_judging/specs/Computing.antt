-- One name that opens every definition of this crate that is shut by default, and of those that it stands on.
-- Proofs alone need it.
use Rattle.state_judging.specs.TreeRules.Computing.{rules_compute}
use Rattle.state_reading.specs.Computing.{reading_computes}
use Rattle.state_judging.specs.Judged.{judged, read_state}

-- Where a proof says `unfolding judging_computes`, what is read is judged by computing.
unfoldable pub judging_computes : Unit {0}
unfolding rules_compute reading_computes judged read_state
judging_computes = tt
