use Rattle.state_keys.proofs.Told.{same-alike, alike-same}
use Rattle.state_keys.proofs.laws.states_are_told.Goals as goal

pub returns-clause-alike : goal.returns-clause-alike
returns-clause-alike c = same-alike

pub returns-clause-finds : goal.returns-clause-finds
returns-clause-finds c = alike-same
