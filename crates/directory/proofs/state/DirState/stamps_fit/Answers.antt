use Rattle.std.proofs.Common.{not, sym, ap, ◌∙◌}
use Rattle.directory.proofs.StampOrder.{fits-behind, fits-not}
use Rattle.directory.proofs.state.DirState.stamps_fit.Goals as goal

pub returns-then-not-is_before : goal.returns-then-not-is_before
returns-then-not-is_before g c =
    rw (c.may_come_all.ensures, ← c.self.view_is) (fits-behind c.args.present.now _ (sym c.is_before.ensures ∙ c.if-not-is_before.true))

pub returns-else-not-is_before : goal.returns-else-not-is_before
returns-else-not-is_before g c =
    rw (← c.self.view_is) (ap not c.if-not-is_before.false ∙ fits-not c.args.present.now _ (sym c.is_before.ensures ∙ c.if-not-is_before.false))
