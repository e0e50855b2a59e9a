use Rattle.checkpoint.proofs.Runs.{run-read}
use Rattle.checkpoint.proofs.laws.saved_is_read_back.Goals as goal

pub returns : goal.returns
returns c = run-read
