use Rattle.report.specs.DdmText.Adds.{◌▸◌}
use Rattle.report.proofs.Lines.{or_dash-parts}
use Rattle.report.proofs.harts.push_output.Goals as goal

pub returns : goal.returns
returns g c = rw or_dash-parts (c.in_ok-push_puts.ensures ▸ c.in_ok-push_dash.ensures.text)
