use Rattle.value_laws.proofs.RunForm.{every-run-form}
use Rattle.value_laws.proofs.laws.every_run_has_form.Goals as goal

pub returns : goal.returns
returns c = every-run-form
