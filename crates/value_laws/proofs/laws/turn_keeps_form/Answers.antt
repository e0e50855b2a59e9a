use Rattle.value_laws.proofs.TurnForm.{turn-form}
use Rattle.value_laws.proofs.laws.turn_keeps_form.Goals as goal

pub returns : goal.returns
returns c = turn-form
