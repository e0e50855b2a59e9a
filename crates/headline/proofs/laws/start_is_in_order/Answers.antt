use Rattle.headline.proofs.StartOrder.{start-orderly}
use Rattle.headline.proofs.laws.start_is_in_order.Goals as goal

pub returns : goal.returns
returns c = start-orderly
