use Rattle.report.specs.DdmText.Hex.{hex2, hex8}
use Rattle.report.proofs.effects.push_amo.Goals as goal

pub returns-clause-text : goal.returns-clause-text
unfolding hex2 hex8
returns-clause-text g c = rw (c.hex8_digits.ensures, c.hex8_digits-2.ensures, c.hex8_digits-3.ensures) at c.put.ensures.text
