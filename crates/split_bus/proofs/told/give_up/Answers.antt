use Rattle.split_bus.specs.TreeModel.State.Child.{child_give_up}
use Rattle.split_bus.proofs.Alone.{told-child}
use Rattle.split_bus.proofs.told.give_up.Goals as goal

pub returns-clause-kids : goal.returns-clause-kids
returns-clause-kids g c = told-child g.C.Agent.value (child_give_up c.args.item) c.args.c _ c.c.view_is c.args.children.now c.give_up.new.self c.index-children-c.result c.requires.child c.give_up.ensures.after
