use Rattle.state_judging.proofs.MachineRead.{what_is_read}
use Rattle.state_judging.proofs.laws.what_is_read.Goals as goal

pub returns : goal.returns
returns c = what_is_read
