use Rattle.std.proofs.Common.{ap, sym}
use Rattle.leaf_protocol.specs.TreeModel.State.Values.{leaf_node}
use Rattle.leaf_protocol.specs.Leaf.{leaf_of}
use Rattle.leaf_protocol.proofs.Told.{lose-none, lose-ends, lose-becomes, asked-value, cleared-value}
use Rattle.leaf_protocol.proofs.agent.LeafAgent.lose.Goals as goal

pub returns-in_default : goal.returns-in_default
returns-in_default g c = rw (← c.self.view_is, c.clear_on.ensures, cleared-value) (ap leaf_node (sym (lose-none c.args.item (leaf_of g.row.WAYS g.row.WORDS c.self.inside.number c.self.inside.entries c.self.inside.slot c.self.inside.replies c.self.inside.reservation c.self.inside.hart) c.in_default.ensures.state)))

pub returns-in_default-leaf_lose : goal.returns-in_default-leaf_lose
returns-in_default-leaf_lose g c = rw (← c.self.view_is, c.clear_on.ensures, cleared-value, c.end_at.ensures) (ap leaf_node (sym (lose-ends c.args.item (leaf_of g.row.WAYS g.row.WORDS c.self.inside.number c.self.inside.entries c.self.inside.slot c.self.inside.replies c.self.inside.reservation c.self.inside.hart) c.in-Some.state c.in-Some.ensures.state c.in_default-leaf_lose.ensures)))

pub returns : goal.returns
returns g c = rw (← c.self.view_is, c.clear_on.ensures, cleared-value, c.set_at.ensures, c.slot_asked-self-inside.ensures, c.asked_when_lost.ensures, asked-value) (ap leaf_node (sym (lose-becomes c.args.item (leaf_of g.row.WAYS g.row.WORDS c.self.inside.number c.self.inside.entries c.self.inside.slot c.self.inside.replies c.self.inside.reservation c.self.inside.hart) c.in-Some.state c.in-Some-leaf_lose.next c.in-Some.ensures.state c.in-Some-leaf_lose.ensures)))
