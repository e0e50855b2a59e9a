use Rattle.std.proofs.Common.{refl}
use Rattle.leaf_protocol.proofs.Changing.{end-kept, end-ways, fate-is}
use Rattle.leaf_protocol.specs.TreeModel.State.Leaf.{ends}
use Rattle.leaf_protocol.proofs.entries.Entries.end.Goals as goal

pub invariant_of-self : goal.invariant_of-self
invariant_of-self g c =
    rw (c.remove.ensures.removed, c.remove-2.ensures.rest, c.waiting_after-self-inside.ensures) (end-kept c.self.invariant c.args.item)

pub returns : goal.returns
returns g c =
    rw (← c.self.view_is, c.remove.ensures.removed, c.remove-2.ensures.rest) (fate-is c.args.item ends c.self.inside.memory.sets c.self.inside.memory.sets c.self.inside.buffer.capacity _ _ _ _ refl (end-ways c.self.invariant c.args.item) refl)
