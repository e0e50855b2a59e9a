use Rattle.leaf_protocol.specs.TreeModel.State.Leaf.{leaf_leaving}
use Rattle.leaf_protocol.proofs.Reading.{leaving-there, leaving-inside}
use Rattle.leaf_protocol.proofs.entries.Entries.leaving.Goals as goal

pub returns-clause-value : goal.returns-clause-value
unfolding leaf_leaving
returns-clause-value g c = rw (← c.self.view_is) c.ready.ensures

pub returns-clause-inside : goal.returns-clause-inside
unfolding leaf_leaving
returns-clause-inside g c = rw (c.ready.ensures, ← c.self.view_is) (leaving-inside c.self.invariant c.args.choice)

pub returns-clause-there : goal.returns-clause-there
unfolding leaf_leaving
returns-clause-there g c = rw (c.ready.ensures, ← c.self.view_is) (leaving-there c.args.choice c.self.inside.buffer.list)
