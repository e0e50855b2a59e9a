use Rattle.ddm_text.specs.Adds.{◌▸◌}
use Rattle.litmus_log.proofs.text.push_size.Goals as goal

pub returns : goal.returns
returns c = c.in_ok-push_count.ensures ▸ c.in_ok-push_bytes.ensures ▸ c.in_ok-push_bytes-2.ensures
