use Rattle.serving_model.proofs.EveryOrder.{every-order}
use Rattle.serving_model.proofs.laws.every_order_is_shown.Goals as goal

pub returns : goal.returns
returns c = every-order
