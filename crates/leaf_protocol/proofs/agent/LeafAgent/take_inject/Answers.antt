use Rattle.std.proofs.Common.{ap, sym}
use Rattle.leaf_protocol.specs.TreeModel.State.Leaf.{free_way}
use Rattle.leaf_protocol.specs.TreeModel.State.Values.{leaf_node}
use Rattle.leaf_protocol.specs.Leaf.{leaf_of}
use Rattle.leaf_protocol.proofs.Told.{inject-none, inject-stays, inject-becomes, struck-value}
use Rattle.leaf_protocol.proofs.agent.LeafAgent.take_inject.Goals as goal

pub returns-in_default : goal.returns-in_default
unfolding free_way
returns-in_default g c = rw (← c.self.view_is, c.slot_struck-self-inside.ensures, struck-value, c.place.ensures.after) (ap leaf_node (sym (inject-none c.args.item (leaf_of g.row.WAYS g.row.WORDS c.self.inside.number c.self.inside.entries c.self.inside.slot c.self.inside.replies c.self.inside.reservation c.self.inside.hart) c.args.words c.in_default.ensures.state)))

pub returns-in_default-leaf_inject : goal.returns-in_default-leaf_inject
returns-in_default-leaf_inject g c = rw (← c.self.view_is, c.slot_struck-self-inside.ensures, struck-value) (ap leaf_node (sym (inject-stays c.args.item (leaf_of g.row.WAYS g.row.WORDS c.self.inside.number c.self.inside.entries c.self.inside.slot c.self.inside.replies c.self.inside.reservation c.self.inside.hart) c.args.words c.in-Some.state c.in-Some.ensures.state c.in_default-leaf_inject.ensures)))

pub returns : goal.returns
returns g c = rw (← c.self.view_is, c.slot_struck-self-inside.ensures, struck-value, c.set_at.ensures) (ap leaf_node (sym (inject-becomes c.args.item (leaf_of g.row.WAYS g.row.WORDS c.self.inside.number c.self.inside.entries c.self.inside.slot c.self.inside.replies c.self.inside.reservation c.self.inside.hart) c.args.words c.in-Some.state c.in-Some-leaf_inject.next c.in-Some.ensures.state c.in-Some-leaf_inject.ensures)))
