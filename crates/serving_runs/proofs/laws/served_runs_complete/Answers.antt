use Rattle.serving_runs.proofs.Complete.{runs-complete}
use Rattle.serving_runs.proofs.laws.served_runs_complete.Goals as goal

pub returns : goal.returns
returns c = runs-complete
