use Rattle.search_model.proofs.QuietFirst.{quiet-right}
use Rattle.search_model.proofs.laws.quiet_searches_are_right.Goals as goal

pub returns : goal.returns
returns c = quiet-right
