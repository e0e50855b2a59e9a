use Rattle.state_keys.proofs.Runs.{runs-told}
use Rattle.state_keys.proofs.laws.runs_are_told.Goals as goal

pub returns : goal.returns
returns c = runs-told
