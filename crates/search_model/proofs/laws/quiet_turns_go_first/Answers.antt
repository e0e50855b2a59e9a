use Rattle.search_model.proofs.QuietFirst.{quiet-first}
use Rattle.search_model.proofs.laws.quiet_turns_go_first.Goals as goal

pub returns : goal.returns
returns c = quiet-first
