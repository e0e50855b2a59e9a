use Rattle.bus_laws.proofs.TreeKept.{turn-keeps_rules}
use Rattle.bus_laws.proofs.laws.turn_keeps_rules.Goals as goal

pub returns : goal.returns
returns c = turn-keeps_rules
