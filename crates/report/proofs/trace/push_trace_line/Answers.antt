use Rattle.report.specs.DdmText.Adds.{◌▸◌}
use Rattle.text_model.specs.Trace.{trace_line}
use Rattle.report.proofs.trace.push_trace_line.Goals as goal

pub returns-clause-text : goal.returns-clause-text
unfolding trace_line
returns-clause-text g c = c.in_ok-push_bytes.ensures.text ▸ c.in_ok-push_decimal.ensures.text ▸ c.in_ok-push_bytes-2.ensures.text ▸ c.in_ok-push_turn.ensures.text ▸ c.in_ok-push_bytes-3.ensures.text ▸ c.in_ok-push_answer.ensures.text ▸ c.in_ok-push_bytes-4.ensures.text
