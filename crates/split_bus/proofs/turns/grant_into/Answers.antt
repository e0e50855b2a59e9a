use Rattle.split_bus.specs.TreeModel.Turns.Bus.{bus_step}
use Rattle.split_bus.proofs.turns.grant_into.Goals as goal

pub returns-in-Down : goal.returns-in-Down
unfolding bus_step
returns-in-Down g c = rw c.in-Down.is c.down.ensures

pub returns-in-Request : goal.returns-in-Request
unfolding bus_step
returns-in-Request g c = rw c.in-Request.is c.request_turn.ensures

pub returns-in-Reply : goal.returns-in-Reply
unfolding bus_step
returns-in-Reply g c = rw c.in-Reply.is (c.reply_turn.ensures c.args.above)

pub returns-in-Leave : goal.returns-in-Leave
unfolding bus_step
returns-in-Leave g c = rw c.in-Leave.is (c.leave_turn.ensures c.args.above)
