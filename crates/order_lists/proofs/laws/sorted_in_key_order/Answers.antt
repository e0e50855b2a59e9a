use Rattle.order_lists.proofs.Contracts.{sorted-in_order, stands-in_order}
use Rattle.order_lists.proofs.laws.sorted_in_key_order.Goals as goal

pub returns-clause-sorted : goal.returns-clause-sorted
returns-clause-sorted c = sorted-in_order

pub returns-clause-pushed : goal.returns-clause-pushed
returns-clause-pushed c = stands-in_order
