use Rattle.spelling_laws.proofs.StartSmall.{started-small}
use Rattle.spelling_laws.proofs.laws.started_machines_are_small.Goals as goal

pub returns : goal.returns
returns c = started-small
