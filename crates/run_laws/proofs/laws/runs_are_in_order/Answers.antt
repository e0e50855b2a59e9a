use Rattle.run_laws.proofs.InOrder.{judged, runs-in_order}
use Rattle.run_laws.proofs.laws.runs_are_in_order.Goals as goal

pub returns-clause-order : goal.returns-clause-order
returns-clause-order c = runs-in_order

pub returns-clause-judged : goal.returns-clause-judged
returns-clause-judged c = judged
