use Rattle.std.proofs.Common.{refl}
use Rattle.leaf_protocol.specs.TreeModel.State.Leaf.{leaf_hold}
use Rattle.leaf_protocol.proofs.agent.LeafAgent.hold.Goals as goal

pub returns : goal.returns
unfolding leaf_hold
returns g c = rw (← c.self.view_is, c.leaf_hold.ensures, c.state.ensures) refl
