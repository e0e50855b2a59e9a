use Rattle.time_laws.proofs.Inside.{inside-unseen}
use Rattle.time_laws.proofs.laws.harts_are_unseen.Goals as goal

pub returns : goal.returns
returns c = inside-unseen
