use Rattle.ddm_cli.proofs.ResumedRuns.{saved-whole}
use Rattle.ddm_cli.proofs.laws.saved_runs.Goals as goal

pub returns : goal.returns
returns c = saved-whole
