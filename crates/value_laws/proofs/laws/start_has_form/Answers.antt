use Rattle.value_laws.proofs.StartForm.{start-form}
use Rattle.value_laws.proofs.laws.start_has_form.Goals as goal

pub returns : goal.returns
returns c = start-form
