use Rattle.std.proofs.Common.{subst}
use Rattle.ddm_text.specs.Adds.{Adds, ◌▸◌}
use Rattle.litmus_log.proofs.text.push_test.Goals as goal

pub returns : goal.returns
returns c =
    c.in_ok-push_bytes.ensures ▸ subst (Adds _ _) c.deref.ensures.value c.in_ok-push_bytes-2.ensures ▸ c.in_ok-push_bytes-3.ensures
    ▸ subst (Adds _ _) c.kind_text.ensures c.in_ok-push_bytes-4.ensures ▸ c.in_ok-push_bytes-5.ensures
