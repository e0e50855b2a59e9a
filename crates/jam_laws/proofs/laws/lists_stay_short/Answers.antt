use Rattle.jam_laws.proofs.Short.{lists-short}
use Rattle.jam_laws.proofs.laws.lists_stay_short.Goals as goal

pub returns : goal.returns
returns c = lists-short
