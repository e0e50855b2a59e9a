use Rattle.std.proofs.Common.{ap, sym}
use Rattle.leaf_protocol.specs.TreeModel.State.Values.{leaf_node}
use Rattle.leaf_protocol.specs.Leaf.{leaf_of}
use Rattle.leaf_protocol.proofs.Told.{data-none, data-stays, data-becomes, asked-value}
use Rattle.leaf_protocol.proofs.agent.LeafAgent.take_data.Goals as goal

pub returns-in_default : goal.returns-in_default
returns-in_default g c = rw (← c.self.view_is) (ap leaf_node (sym (data-none c.args.item (leaf_of g.row.WAYS g.row.WORDS c.self.inside.number c.self.inside.entries c.self.inside.slot c.self.inside.replies c.self.inside.reservation c.self.inside.hart) c.args.words c.in_default.ensures.state)))

pub returns-in_default-leaf_data : goal.returns-in_default-leaf_data
returns-in_default-leaf_data g c = rw (← c.self.view_is) (ap leaf_node (sym (data-stays c.args.item (leaf_of g.row.WAYS g.row.WORDS c.self.inside.number c.self.inside.entries c.self.inside.slot c.self.inside.replies c.self.inside.reservation c.self.inside.hart) c.args.words c.in-Some.state c.in-Some.ensures.state c.in_default-leaf_data.ensures)))

pub returns : goal.returns
returns g c = rw (← c.self.view_is, c.set_at.ensures, c.slot_asked-self-inside.ensures, c.asked_with_data.ensures, asked-value) (ap leaf_node (sym (data-becomes c.args.item (leaf_of g.row.WAYS g.row.WORDS c.self.inside.number c.self.inside.entries c.self.inside.slot c.self.inside.replies c.self.inside.reservation c.self.inside.hart) c.args.words c.in-Some.state c.in-Some-leaf_data.next c.in-Some.ensures.state c.in-Some-leaf_data.ensures)))
