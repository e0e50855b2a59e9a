use Rattle.outcome_model.proofs.Halted.{halted-stays, later-turns-change-nothing}
use Rattle.outcome_model.proofs.laws.halted_harts_keep_their_outcome.Goals as goal

pub returns : goal.returns
returns c = record { turn = halted-stays; runs = later-turns-change-nothing }
