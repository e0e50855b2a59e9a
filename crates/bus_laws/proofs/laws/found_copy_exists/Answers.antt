use Rattle.bus_laws.proofs.FoundExists.{found_copy-exists}
use Rattle.bus_laws.proofs.laws.found_copy_exists.Goals as goal

pub returns : goal.returns
returns c = found_copy-exists
