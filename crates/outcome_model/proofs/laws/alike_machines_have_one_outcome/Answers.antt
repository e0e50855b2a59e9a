use Rattle.outcome_model.proofs.AlikeOutcomes.{one-outcome, halt-alike}
use Rattle.outcome_model.proofs.laws.alike_machines_have_one_outcome.Goals as goal

pub returns : goal.returns
returns c = record { outcome = one-outcome; halted = halt-alike }
