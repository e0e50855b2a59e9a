use Rattle.std.proofs.Common.{sym, ap, ◌∙◌}
use Rattle.ddm_tree.proofs.KeysRising.{taken}
use Rattle.ddm_tree.proofs.keys_judged.take_key.Goals as goal

pub returns : goal.returns
returns c given = taken c.args.lasts.now c.args.op.now _ _ (ap (λ o. o.hart) c.op.view_is) (ap (λ o. o.key) c.op.view_is) c.if-hart-lasts.false (sym c.comes_behind.ensures ∙ c.if-not-comes_behind.false)
