use Rattle.jam_laws.proofs.NoJam.{some-granted}
use Rattle.jam_laws.proofs.laws.some_bus_goes_on.Goals as goal

pub returns : goal.returns
returns c = some-granted
