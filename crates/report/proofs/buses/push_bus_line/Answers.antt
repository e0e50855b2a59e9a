use Rattle.report.specs.DdmText.Adds.{◌▸◌}
use Rattle.text_model.specs.Report.{bus_line}
use Rattle.report.proofs.buses.push_bus_line.Goals as goal

pub returns-clause-text : goal.returns-clause-text
unfolding bus_line
returns-clause-text g c = c.in_ok-push_bytes.ensures.text ▸ c.in_ok-push_bus.ensures.text ▸ c.in_ok-push_bytes-2.ensures.text ▸ c.in_ok-push_number.ensures.text ▸ c.in_ok-push_bytes-3.ensures.text ▸ c.in_ok-push_number-2.ensures.text ▸ c.in_ok-push_bytes-4.ensures.text ▸ c.in_ok-push_number-3.ensures.text ▸ c.in_ok-push_bytes-5.ensures.text ▸ c.in_ok-push_number-4.ensures.text ▸ c.in_ok-push_bytes-6.ensures.text ▸ c.in_ok-push_number-5.ensures.text ▸ c.in_ok-push_bytes-7.ensures.text ▸ c.in_ok-push_number-6.ensures.text ▸ c.in_ok-push_bytes-8.ensures.text
