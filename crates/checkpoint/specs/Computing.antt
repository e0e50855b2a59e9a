-- One name that opens every definition that a checkpoint of a run computes with.
-- Proofs alone need it.
use Rattle.checkpoint.specs.TreeRules.Computing.{rules_compute}
use Rattle.checkpoint.specs.TextModel.Run.{counts_of}
use Rattle.checkpoint.specs.StateReading.Computing.{reading_computes}
use Rattle.checkpoint.specs.StateJudging.Judged.{judged, read_state}
use Rattle.checkpoint.specs.Resumed.{resumed}
use Rattle.checkpoint.specs.Examples.{untouched, judgement}

-- Where a proof says `unfolding checkpoints_compute`, what is saved and what is read computes.
unfoldable pub checkpoints_compute : Unit {0}
unfolding rules_compute counts_of reading_computes judged read_state resumed untouched judgement
checkpoints_compute = tt
