use Rattle.order_lists.proofs.Contracts.{exclusive-alone}
use Rattle.order_lists.proofs.laws.exclusive_leaf_is_alone.Goals as goal

pub returns : goal.returns
returns c = exclusive-alone
