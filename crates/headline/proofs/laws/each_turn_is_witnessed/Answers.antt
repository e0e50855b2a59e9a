use Rattle.headline.proofs.Runs.{each-turn, run-in_order}
use Rattle.headline.proofs.laws.each_turn_is_witnessed.Goals as goal

pub returns-clause-witnessed : goal.returns-clause-witnessed
returns-clause-witnessed c = each-turn

pub returns-clause-rules : goal.returns-clause-rules
returns-clause-rules c = run-in_order
