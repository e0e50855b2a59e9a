use Rattle.std.proofs.Common.{refl}
use Rattle.leaf_protocol.specs.TreeModel.State.Leaf.{free_way}
use Rattle.leaf_protocol.proofs.leaf.Leaf.start_item.Goals as goal

pub returns-clause-way : goal.returns-clause-way
unfolding free_way
returns-clause-way g c = rw (← c.self.view_is) c.place.ensures.way

pub returns-clause-full : goal.returns-clause-full
unfolding free_way
returns-clause-full g c = rw (← c.self.view_is) c.place.ensures.full

pub returns-clause-after : goal.returns-clause-after
unfolding free_way
returns-clause-after g c = rw (← c.self.view_is, c.place.ensures.after) refl
