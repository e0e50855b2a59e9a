use Rattle.state_judging.proofs.Judging.{judged_states_keep_the_rules}
use Rattle.state_judging.proofs.laws.judged_states_keep_the_rules.Goals as goal

pub returns : goal.returns
returns c = judged_states_keep_the_rules
