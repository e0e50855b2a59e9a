use Rattle.run_laws.proofs.InOrder.{turns-keep_pairs}
use Rattle.run_laws.proofs.laws.turns_keep_pairs.Goals as goal

pub returns : goal.returns
returns c = turns-keep_pairs
