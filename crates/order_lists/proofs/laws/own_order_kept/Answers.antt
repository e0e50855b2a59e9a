use Rattle.order_lists.proofs.OwnOrder.{own}
use Rattle.order_lists.proofs.laws.own_order_kept.Goals as goal

pub returns : goal.returns
returns c = own
