use Rattle.headline.proofs.BusyCauses.{busy-has_cause}
use Rattle.headline.proofs.laws.busy_has_its_cause.Goals as goal

pub returns : goal.returns
returns c = busy-has_cause
