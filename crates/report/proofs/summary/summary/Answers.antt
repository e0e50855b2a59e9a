use Rattle.report.specs.DdmText.Adds.{◌▸◌, alone}
use Rattle.text_model.specs.Report.{summary_of}
use Rattle.text_model.specs.Run.{view_of}
use Rattle.report.proofs.summary.summary.Goals as goal

pub returns : goal.returns
unfolding summary_of view_of
returns g c =
    alone
    (c.in_ok-push_head.ensures.text ▸ c.in_ok-push_hart_states.ensures ▸ c.in_ok-push_buses.ensures ▸ c.in_ok-push_bytes.ensures.text)
    c.new-text.ensures.items
