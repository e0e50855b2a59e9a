use Rattle.state_judging.proofs.Judging.{kept_rules_are_judged_so}
use Rattle.state_judging.proofs.laws.kept_rules_are_judged_so.Goals as goal

pub returns : goal.returns
returns c = kept_rules_are_judged_so
