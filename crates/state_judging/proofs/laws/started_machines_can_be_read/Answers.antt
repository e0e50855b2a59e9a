use Rattle.state_judging.proofs.Started.{started_machines_can_be_read}
use Rattle.state_judging.proofs.laws.started_machines_can_be_read.Goals as goal

pub returns : goal.returns
returns c = started_machines_can_be_read
