use Rattle.order_lists.proofs.Contracts.{stays-legal}
use Rattle.order_lists.proofs.laws.one_more_stays_legal.Goals as goal

pub returns : goal.returns
returns c = stays-legal
