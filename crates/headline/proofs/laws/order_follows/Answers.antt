use Rattle.headline.proofs.Witnessed.{witnessed}
use Rattle.headline.proofs.Written.{written-follows}
use Rattle.headline.proofs.laws.order_follows.Goals as goal

pub returns-clause-witnessed : goal.returns-clause-witnessed
returns-clause-witnessed c = witnessed

pub returns-clause-written : goal.returns-clause-written
returns-clause-written c = written-follows
