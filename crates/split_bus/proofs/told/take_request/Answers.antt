use Rattle.split_bus.specs.TreeModel.State.Child.{child_request_taken}
use Rattle.split_bus.proofs.Alone.{told-child}
use Rattle.split_bus.proofs.told.take_request.Goals as goal

pub returns : goal.returns
returns g c = told-child g.C.Agent.value child_request_taken c.args.c _ c.c.view_is c.args.children.now c.take_request.new.self c.index-children-c.result c.requires c.take_request.ensures
