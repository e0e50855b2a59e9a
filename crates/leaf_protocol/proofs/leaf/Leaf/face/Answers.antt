use Rattle.std.proofs.Common.{refl}
use Rattle.leaf_protocol.specs.TreeModel.State.Leaf.{leaf_hold}
use Rattle.leaf_protocol.proofs.leaf.Leaf.face.Goals as goal

pub returns : goal.returns
unfolding leaf_hold
returns g c = rw (c.waits_for_data.ensures, c.asks_to_read.ensures, c.waits_to_be_exclusive.ensures, c.asks_to_erase.ensures, c.leaf_hold.ensures, c.reply_count.ensures, c.state-state.ensures, ← c.self.view_is) refl
