use Rattle.ddm_text.specs.Adds.{◌▸◌}
use Rattle.litmus_log.proofs.text.push_runs.Goals as goal

pub returns : goal.returns
returns c =
    c.in_ok-push_all.ensures ▸ c.in_ok-push_bytes.ensures ▸ c.in_ok-push_decimal.ensures.ok ▸ c.in_ok-push_bytes-2.ensures
    ▸ c.in_ok-push_decimal-2.ensures.ok ▸ c.in_ok-push_bytes-3.ensures
