use Rattle.report.specs.DdmText.Hex.{hex2, hex8}
use Rattle.text_model.specs.Words.{effect_text}
use Rattle.report.proofs.operations.push_op_end.Goals as goal

pub returns-in-Plain-clause-text : goal.returns-in-Plain-clause-text
unfolding hex2 hex8 effect_text
returns-in-Plain-clause-text g c = rw c.in-Plain.is (rw c.hex8_digits.ensures at c.put.ensures.text)
