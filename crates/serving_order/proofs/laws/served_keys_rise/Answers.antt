use Rattle.serving_order.proofs.Served.{served-rise}
use Rattle.serving_order.proofs.laws.served_keys_rise.Goals as goal

pub returns : goal.returns
returns c = served-rise
