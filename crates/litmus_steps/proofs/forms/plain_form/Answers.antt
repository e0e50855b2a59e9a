use Rattle.std.proofs.Common.{◌≡◌, subst, sym}
use Rattle.std.specs.Prelude.{true, IfSome, Option}
use Rattle.litmus_model.specs.declared.test.Form.{Form}
use Rattle.litmus_model.specs.Mnemonics.{plain_rows}
use Rattle.litmus_steps.specs.Made.{is_form}
use Rattle.litmus_steps.proofs.GoodForms.{plain_forms}
use Rattle.litmus_steps.proofs.forms.plain_form.Goals as goal

pub returns-clause-form : goal.returns-clause-form
unfolding plain_rows
returns-clause-form c = c.meaning_in.ensures

pub returns-clause-valid : goal.returns-clause-valid
unfolding plain_rows
returns-clause-valid c = subst (λ (o : Option Form). IfSome o (λ form. is_form form ≡ true)) (sym c.meaning_in.ensures) (plain_forms c.args.word.now)
