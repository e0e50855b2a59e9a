use Rattle.split_bus.specs.TreeModel.State.Child.{child_answer}
use Rattle.split_bus.proofs.Alone.{told-child}
use Rattle.split_bus.proofs.told.answer.Goals as goal

pub returns : goal.returns
returns g c = told-child g.C.Agent.value (child_answer c.args.item c.args.stamp) c.args.k _ c.k.view_is c.args.children.now c.answer.new.self c.index-children-k.result c.requires.child c.answer.ensures
