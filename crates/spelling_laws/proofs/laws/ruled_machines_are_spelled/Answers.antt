use Rattle.spelling_laws.proofs.Ruled.{ruled-spelled}
use Rattle.spelling_laws.proofs.laws.ruled_machines_are_spelled.Goals as goal

pub returns : goal.returns
returns c = ruled-spelled
