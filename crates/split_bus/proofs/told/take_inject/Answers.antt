use Rattle.std.proofs.Common.{arith}
use Rattle.split_bus.specs.TreeModel.State.Child.{child_take_inject}
use Rattle.split_bus.proofs.Alone.{told-child, told-absent}
use Rattle.split_bus.proofs.told.take_inject.Goals as goal

pub returns-then-k-children : goal.returns-then-k-children
returns-then-k-children g c = told-child g.C.Agent.value (child_take_inject c.args.item c.args.words.now c.args.stamp) c.args.k _ c.k.view_is c.args.children.now c.take_inject.new.self c.index-children-k.result (omega arith) c.take_inject.ensures

pub returns-else-k-children : goal.returns-else-k-children
returns-else-k-children g c = told-absent g.C.Agent.value (child_take_inject c.args.item c.args.words.now c.args.stamp) c.args.k c.args.children.now (omega arith)
