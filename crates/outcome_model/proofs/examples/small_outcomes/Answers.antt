use Rattle.std.proofs.Common.{refl}
use Rattle.outcome_model.specs.Computing.{outcomes_compute}
use Rattle.outcome_model.proofs.examples.small_outcomes.Goals as goal

pub returns : goal.returns
unfolding outcomes_compute
returns c = record {
  before = refl;
  put = refl;
  halted = refl;
  stays = refl;
  eight_seeds = refl;
}
