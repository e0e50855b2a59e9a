use Rattle.recording_model.proofs.Recordings.{runs-again}
use Rattle.recording_model.proofs.laws.recorded_schedules_run_again.Goals as goal

pub returns : goal.returns
returns c = λ shape turns draws m small few known. runs-again turns draws m shape small few known
