use Rattle.std.proofs.Common.{ap, sym}
use Rattle.leaf_protocol.specs.TreeModel.State.Values.{leaf_node}
use Rattle.leaf_protocol.specs.Leaf.{leaf_of}
use Rattle.leaf_protocol.proofs.Told.{exclusive-none, exclusive-stays, exclusive-becomes}
use Rattle.leaf_protocol.proofs.agent.LeafAgent.take_exclusive.Goals as goal

pub returns-in_default : goal.returns-in_default
returns-in_default g c = rw (← c.self.view_is) (ap leaf_node (sym (exclusive-none c.args.item (leaf_of g.row.WAYS g.row.WORDS c.self.inside.number c.self.inside.entries c.self.inside.slot c.self.inside.replies c.self.inside.reservation c.self.inside.hart) c.in_default.ensures.state)))

pub returns-in_default-leaf_exclusive : goal.returns-in_default-leaf_exclusive
returns-in_default-leaf_exclusive g c = rw (← c.self.view_is) (ap leaf_node (sym (exclusive-stays c.args.item (leaf_of g.row.WAYS g.row.WORDS c.self.inside.number c.self.inside.entries c.self.inside.slot c.self.inside.replies c.self.inside.reservation c.self.inside.hart) c.in-Some.state c.in-Some.ensures.state c.in_default-leaf_exclusive.ensures)))

pub returns : goal.returns
returns g c = rw (← c.self.view_is, c.set_state_at.ensures) (ap leaf_node (sym (exclusive-becomes c.args.item (leaf_of g.row.WAYS g.row.WORDS c.self.inside.number c.self.inside.entries c.self.inside.slot c.self.inside.replies c.self.inside.reservation c.self.inside.hart) c.in-Some.state c.in-Some-leaf_exclusive.next c.in-Some.ensures.state c.in-Some-leaf_exclusive.ensures)))
