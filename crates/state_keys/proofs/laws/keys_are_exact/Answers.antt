use Rattle.state_keys.proofs.Exact.{key-alike, alike-key}
use Rattle.state_keys.proofs.laws.keys_are_exact.Goals as goal

pub returns-clause-alike : goal.returns-clause-alike
returns-clause-alike c = λ fresh m n most can. key-alike fresh m n most can

pub returns-clause-same : goal.returns-clause-same
returns-clause-same c = alike-key
