use Rattle.std.proofs.Common.{sym, ◌∙◌}
use Rattle.ddm_tree.proofs.NotHeld.{no-state-idle, no-state-other}
use Rattle.ddm_tree.proofs.unheld.unheld_state.Goals as goal

pub returns-in-None : goal.returns-in-None
returns-in-None g c = no-state-idle c.args.item c.args.leaf.now c.requires.ruled c.requires.unheld (sym c.in-None.is ∙ c.waiting.ensures)

pub returns-else-waiting-item : goal.returns-else-waiting-item
returns-else-waiting-item g c = no-state-other c.args.item c.args.leaf.now c.requires.ruled c.requires.unheld c.in-Some.waiting (sym c.in-Some.is ∙ c.waiting.ensures) (λ same. c.if-waiting-item.false (c.waiting-in-Some.view_is ∙ same ∙ sym c.item.view_is))
