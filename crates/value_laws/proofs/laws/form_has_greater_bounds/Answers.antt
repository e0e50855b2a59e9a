use Rattle.value_laws.proofs.RunForm.{greater-form}
use Rattle.value_laws.proofs.laws.form_has_greater_bounds.Goals as goal

pub returns : goal.returns
returns c = greater-form
