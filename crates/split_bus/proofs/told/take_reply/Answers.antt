use Rattle.split_bus.specs.TreeModel.State.Child.{child_reply_taken}
use Rattle.split_bus.proofs.Alone.{told-child}
use Rattle.split_bus.proofs.told.take_reply.Goals as goal

pub returns : goal.returns
returns g c = told-child g.C.Agent.value child_reply_taken c.args.c _ c.c.view_is c.args.children.now c.take_reply.new.self c.index-children-c.result c.requires c.take_reply.ensures
