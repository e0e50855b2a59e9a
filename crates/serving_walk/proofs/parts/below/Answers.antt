use Rattle.std.proofs.Common.{ap}
use Rattle.serving_walk.proofs.AtBus.{leaf-same, leaf-fewer, leaf-bus, bus-below}
use Rattle.serving_walk.proofs.parts.below.Goals as goal

pub returns-in-LeafChild-clause-fewer : goal.returns-in-LeafChild-clause-fewer
returns-in-LeafChild-clause-fewer g c = leaf-fewer (g.T.Tree.value c.args.tree.now) c.requires.shaped c.args.bus c.args.child c.requires.child

pub returns-in-LeafChild-clause-same : goal.returns-in-LeafChild-clause-same
returns-in-LeafChild-clause-same g c = leaf-same (g.T.Tree.value c.args.tree.now) c.requires.shaped c.args.bus c.args.child c.requires.child c.in-LeafChild.field-0 c.in-LeafChild.ensures

pub returns-in-BusChild-clause-there : goal.returns-in-BusChild-clause-there
returns-in-BusChild-clause-there g c = (bus-below (g.T.Tree.value c.args.tree.now) c.requires.shaped c.args.bus c.args.child c.requires.child c.in-BusChild.part c.in-BusChild.ensures).there

pub returns-in-BusChild-clause-fewer : goal.returns-in-BusChild-clause-fewer
returns-in-BusChild-clause-fewer g c = (bus-below (g.T.Tree.value c.args.tree.now) c.requires.shaped c.args.bus c.args.child c.requires.child c.in-BusChild.part c.in-BusChild.ensures).fewer

pub returns-in-BusChild-clause-same : goal.returns-in-BusChild-clause-same
returns-in-BusChild-clause-same g c = λ turns none. ap turns (bus-below (g.T.Tree.value c.args.tree.now) c.requires.shaped c.args.bus c.args.child c.requires.child c.in-BusChild.part c.in-BusChild.ensures).part

pub returns-in-LeafChild-clause-bus : goal.returns-in-LeafChild-clause-bus
returns-in-LeafChild-clause-bus g c = leaf-bus (g.T.Tree.value c.args.tree.now) c.requires.shaped c.args.bus c.args.child c.requires.child c.in-LeafChild.field-0 c.in-LeafChild.ensures

pub returns-in-BusChild-clause-bus : goal.returns-in-BusChild-clause-bus
returns-in-BusChild-clause-bus g c = (bus-below (g.T.Tree.value c.args.tree.now) c.requires.shaped c.args.bus c.args.child c.requires.child c.in-BusChild.part c.in-BusChild.ensures).bus

pub returns-in-BusChild-clause-part : goal.returns-in-BusChild-clause-part
returns-in-BusChild-clause-part g c = (bus-below (g.T.Tree.value c.args.tree.now) c.requires.shaped c.args.bus c.args.child c.requires.child c.in-BusChild.part c.in-BusChild.ensures).part
