use Rattle.litmus_states.proofs.Complete.{runs-complete}
use Rattle.litmus_states.proofs.laws.runs_are_complete.Goals as goal

pub returns : goal.returns
returns c = runs-complete
