use Rattle.replacement.specs.TreeModel.State.Leaf.{buffer_item}
use Rattle.replacement.specs.Arrived.{with_state}
use Rattle.replacement.proofs.Once.{held_changed, state_item}
use Rattle.replacement.proofs.buffer.Buffer.set_state.Goals as goal

pub invariant_of-self : goal.invariant_of-self
invariant_of-self g c =
    held_changed buffer_item (with_state c.args.item c.args.state) (state_item c.args.item c.args.state) c.self.inside.entries c.set_state_of.new.entries c.set_state_of.ensures c.self.invariant
