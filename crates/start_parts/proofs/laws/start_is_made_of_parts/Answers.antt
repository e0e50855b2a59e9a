use Rattle.start_parts.proofs.Made.{start-made}
use Rattle.start_parts.proofs.laws.start_is_made_of_parts.Goals as goal

pub returns : goal.returns
returns c = start-made
