use Rattle.bus_laws.proofs.BusKept.{bus-keeps}
use Rattle.bus_laws.proofs.laws.bus_turn_keeps_rules.Goals as goal

pub returns : goal.returns
returns c = bus-keeps
