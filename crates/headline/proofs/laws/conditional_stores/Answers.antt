use Rattle.headline.proofs.Conditional.{stores-judged}
use Rattle.headline.proofs.laws.conditional_stores.Goals as goal

pub returns : goal.returns
returns c = stores-judged
