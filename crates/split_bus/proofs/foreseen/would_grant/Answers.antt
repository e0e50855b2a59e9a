use Rattle.std.proofs.Common.{sym, ◌∙◌}
use Rattle.split_bus.specs.TreeModel.Turns.Bus.{bus_step}
use Rattle.split_bus.proofs.Granting.{granted-answer}
use Rattle.split_bus.proofs.foreseen.would_grant.Goals as goal

pub returns-in-Down : goal.returns-in-Down
unfolding bus_step
returns-in-Down g c = rw c.in-Down.is (λ above. c.down_goes.ensures ∙ sym (granted-answer _ _))

pub returns-in-Request : goal.returns-in-Request
unfolding bus_step
returns-in-Request g c = rw c.in-Request.is (λ above. c.request_goes.ensures above ∙ sym (granted-answer _ _))

pub returns-in-Reply : goal.returns-in-Reply
unfolding bus_step
returns-in-Reply g c = rw c.in-Reply.is (λ above. c.reply_goes.ensures above ∙ sym (granted-answer _ _))
