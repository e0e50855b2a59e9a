use Rattle.order_laws.proofs.EveryTurn.{core-turn, run-orderly}
use Rattle.order_laws.proofs.laws.turn_keeps_order.Goals as goal

pub returns-clause-turn : goal.returns-clause-turn
returns-clause-turn c = core-turn

pub returns-clause-run : goal.returns-clause-run
returns-clause-run c = run-orderly
