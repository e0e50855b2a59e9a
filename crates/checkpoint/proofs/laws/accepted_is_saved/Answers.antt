use Rattle.checkpoint.proofs.Accepted.{accepted-saved}
use Rattle.checkpoint.proofs.laws.accepted_is_saved.Goals as goal

pub returns : goal.returns
returns c = accepted-saved
