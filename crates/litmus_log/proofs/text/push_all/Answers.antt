use Rattle.std.proofs.Common.{ap, subst}
use Rattle.std.specs.Prelude.{decimal}
use Rattle.ddm_text.specs.Adds.{Adds, ◌▸◌}
use Rattle.litmus_log.proofs.text.push_all.Goals as goal

pub returns : goal.returns
returns c =
    c.in_ok-push_bytes.ensures ▸ subst (Adds _ _) c.deref.ensures.value c.in_ok-push_bytes-2.ensures ▸ c.in_ok-push_bytes-3.ensures
    ▸ subst (Adds _ _) (ap decimal c.from.ensures) c.in_ok-push_decimal.ensures.ok
