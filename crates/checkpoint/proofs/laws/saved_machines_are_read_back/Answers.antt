use Rattle.checkpoint.proofs.ReadBack.{saved-read}
use Rattle.checkpoint.proofs.laws.saved_machines_are_read_back.Goals as goal

pub returns : goal.returns
returns c = saved-read
