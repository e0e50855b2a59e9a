use Rattle.lr_sc_laws.proofs.Failing.{leaf-fails, turn-fails}
use Rattle.lr_sc_laws.proofs.laws.unreserved_sc_fails.Goals as goal

pub returns-clause-leaf : goal.returns-clause-leaf
returns-clause-leaf c = leaf-fails

pub returns-clause-turn : goal.returns-clause-turn
returns-clause-turn c = turn-fails
