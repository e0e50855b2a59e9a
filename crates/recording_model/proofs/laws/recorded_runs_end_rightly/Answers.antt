use Rattle.recording_model.proofs.Recordings.{ends-rightly}
use Rattle.recording_model.proofs.laws.recorded_runs_end_rightly.Goals as goal

pub returns : goal.returns
returns c = ends-rightly
