use Rattle.order_laws.proofs.Hart.CoreTurn.{hart-turn-core}
use Rattle.order_laws.proofs.laws.hart_turn_keeps_order.Goals as goal

pub returns : goal.returns
returns c = hart-turn-core
