use Rattle.value_laws.proofs.TurnForm.{run-form}
use Rattle.value_laws.proofs.laws.run_keeps_form.Goals as goal

pub returns : goal.returns
returns c = run-form
