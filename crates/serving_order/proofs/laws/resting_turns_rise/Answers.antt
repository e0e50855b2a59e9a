use Rattle.serving_order.proofs.Rising.{turns-rise}
use Rattle.serving_order.proofs.laws.resting_turns_rise.Goals as goal

pub returns : goal.returns
returns c = turns-rise
