use Rattle.std.proofs.Common.{ap, ◌∙◌}
use Rattle.std.specs.Option.{option_map}
use Rattle.litmus_model.specs.Mnemonics.{atomic_rows}
use Rattle.litmus_steps.specs.Rows.{atomics, form_with}
use Rattle.litmus_steps.proofs.RowSearch.{mapped}
use Rattle.litmus_steps.proofs.forms.atomic_of.Goals as goal

pub returns : goal.returns
unfolding atomic_rows
returns c = ap (option_map form_with) c.meaning_in.ensures ∙ mapped form_with atomics c.args.word.now
