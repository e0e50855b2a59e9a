use Rattle.report.specs.DdmText.Adds.{◌▸◌}
use Rattle.text_model.specs.Report.{hart_line}
use Rattle.report.proofs.harts.push_hart_line.Goals as goal

pub returns-clause-text : goal.returns-clause-text
unfolding hart_line
returns-clause-text g c = c.in_ok-push_bytes.ensures.text ▸ c.in_ok-push_hart.ensures.text ▸ c.in_ok-push_bytes-2.ensures.text ▸ c.in_ok-push_state.ensures.text ▸ c.in_ok-push_bytes-3.ensures.text ▸ c.in_ok-push_hex8.ensures.text ▸ c.in_ok-push_bytes-4.ensures.text ▸ c.in_ok-push_number.ensures.text ▸ c.in_ok-push_bytes-5.ensures.text
