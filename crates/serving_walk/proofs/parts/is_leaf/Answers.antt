use Rattle.std.proofs.Common.{◌∙◌}
use Rattle.serving_walk.proofs.AtBus.{leaf-named, bus-named}
use Rattle.serving_walk.proofs.parts.is_leaf.Goals as goal

pub returns-in-LeafChild : goal.returns-in-LeafChild
returns-in-LeafChild g c = c.eq.ensures ∙ leaf-named (g.T.Tree.value c.args.tree.now) c.requires.shaped c.args.bus c.args.child c.requires.child c.args.leaf c.in-LeafChild.number c.in-LeafChild.ensures

pub returns-in-BusChild : goal.returns-in-BusChild
returns-in-BusChild g c = bus-named (g.T.Tree.value c.args.tree.now) c.requires.shaped c.args.bus c.args.child c.requires.child c.args.leaf c.in-BusChild.field-0 c.in-BusChild.ensures
