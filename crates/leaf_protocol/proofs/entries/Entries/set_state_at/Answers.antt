use Rattle.std.proofs.Common.{rules, sym, ◌∙◌}
use Rattle.leaf_protocol.specs.TreeModel.State.Leaf.{becomes, words_in}
use Rattle.leaf_protocol.proofs.Changing.{set-way-kept, set-way-ways, set-way-buffer, words-way, fate-is}
use Rattle.leaf_protocol.proofs.Reading.{stands-at}
use Rattle.leaf_protocol.proofs.Ways.{put-state}
use Rattle.leaf_protocol.proofs.entries.Entries.set_state_at.Goals as goal

pub set_state_at-requires : goal.set_state_at-requires
set_state_at-requires g c =
    let at = stands-at c.self.invariant c.args.item c.in-Some.place (sym c.in-Some.is ∙ rw (← c.self.view_is) at c.requires.place) in
    (search rules, at.0)

pub invariant_of-self : goal.invariant_of-self
invariant_of-self g c =
    let at = stands-at c.self.invariant c.args.item c.in-Some.place (sym c.in-Some.is ∙ rw (← c.self.view_is) at c.requires.place) in
    let put = put-state c.self.inside.memory c.args.item at.1.0 c.args.state g.row.WORDS c.requires.keeps at.1.1 in
    rw (c.set_state_at.ensures, c.waiting_after-self-inside.ensures, c.waits.ensures) (set-way-kept c.self.invariant c.args.item c.args.state at.1.0.words (rw (← c.self.view_is) at c.requires.alone) at.1.0 at.1.1 _ put)

pub returns-in-Some : goal.returns-in-Some
returns-in-Some g c =
    let at = stands-at c.self.invariant c.args.item c.in-Some.place (sym c.in-Some.is ∙ rw (← c.self.view_is) at c.requires.place) in
    let put = put-state c.self.inside.memory c.args.item at.1.0 c.args.state g.row.WORDS c.requires.keeps at.1.1 in
    rw (← c.self.view_is, c.set_state_at.ensures, words-way c.self.invariant c.args.item at.1.0 at.1.1)
    (fate-is c.args.item (becomes c.args.state (words_in c.args.state g.row.WORDS at.1.0.words)) c.self.inside.memory.sets _ c.self.inside.buffer.capacity _ _ _ _ put.sets (set-way-ways c.self.invariant c.args.item c.args.state at.1.0.words (rw (← c.self.view_is) at c.requires.alone) at.1.0 at.1.1 _ put) (set-way-buffer c.self.invariant c.args.item c.args.state at.1.0.words (rw (← c.self.view_is) at c.requires.alone) at.1.0 at.1.1 _ put))
