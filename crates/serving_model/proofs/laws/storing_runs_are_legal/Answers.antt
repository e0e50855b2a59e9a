use Rattle.serving_model.proofs.StoringRuns.{storing-runs}
use Rattle.serving_model.proofs.laws.storing_runs_are_legal.Goals as goal

pub returns : goal.returns
returns c = storing-runs
