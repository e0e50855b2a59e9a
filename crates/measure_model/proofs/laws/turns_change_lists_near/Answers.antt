use Rattle.measure_model.proofs.Near.{changes-near}
use Rattle.measure_model.proofs.laws.turns_change_lists_near.Goals as goal

pub returns : goal.returns
returns c = changes-near
