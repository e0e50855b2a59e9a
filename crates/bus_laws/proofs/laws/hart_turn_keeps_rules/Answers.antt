use Rattle.bus_laws.proofs.HartTurns.{leaf_step-keeps_rules}
use Rattle.bus_laws.proofs.laws.hart_turn_keeps_rules.Goals as goal

pub returns : goal.returns
returns c = leaf_step-keeps_rules
