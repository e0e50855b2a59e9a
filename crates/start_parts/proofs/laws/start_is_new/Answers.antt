use Rattle.start_parts.proofs.StartNew.{start-new}
use Rattle.start_parts.proofs.laws.start_is_new.Goals as goal

pub returns : goal.returns
returns c = start-new
