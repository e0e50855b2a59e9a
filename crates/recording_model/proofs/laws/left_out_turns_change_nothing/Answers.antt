use Rattle.recording_model.proofs.Doing.{turn-rests}
use Rattle.recording_model.proofs.Recordings.{left-out-changes-nothing}
use Rattle.recording_model.proofs.laws.left_out_turns_change_nothing.Goals as goal

pub returns : goal.returns
returns c = record { turn = turn-rests; runs = left-out-changes-nothing }
