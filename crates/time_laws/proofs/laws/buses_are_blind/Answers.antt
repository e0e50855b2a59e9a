use Rattle.time_laws.proofs.Unseen.{bus_step-changed}
use Rattle.time_laws.proofs.laws.buses_are_blind.Goals as goal

pub returns : goal.returns
returns c = bus_step-changed
