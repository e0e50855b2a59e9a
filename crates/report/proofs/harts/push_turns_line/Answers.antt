use Rattle.report.specs.DdmText.Adds.{◌▸◌}
use Rattle.text_model.specs.Report.{turns_line}
use Rattle.report.proofs.harts.push_turns_line.Goals as goal

pub returns-clause-text : goal.returns-clause-text
unfolding turns_line
returns-clause-text g c = c.in_ok-push_bytes.ensures.text ▸ c.in_ok-push_number.ensures.text ▸ c.in_ok-push_bytes-2.ensures.text ▸ c.in_ok-push_number-2.ensures.text ▸ c.in_ok-push_bytes-3.ensures.text ▸ c.in_ok-push_number-3.ensures.text ▸ c.in_ok-push_bytes-4.ensures.text ▸ c.in_ok-push_number-4.ensures.text ▸ c.in_ok-push_bytes-5.ensures.text
