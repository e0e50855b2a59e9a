use Rattle.std.proofs.Common.{rules, refl, sym, ◌∙◌}
use Rattle.leaf_protocol.specs.TreeModel.State.Leaf.{becomes, words_in}
use Rattle.leaf_protocol.proofs.Buffered.{in_state-there}
use Rattle.leaf_protocol.proofs.Changing.{elsewhere, set-way-kept, set-way-ways, set-way-buffer, set-buffer-kept, set-buffer-ways, set-buffer-buffer, fate-is}
use Rattle.leaf_protocol.proofs.Reading.{stands-at, stands-nowhere}
use Rattle.leaf_protocol.proofs.Ways.{put-both}
use Rattle.leaf_protocol.proofs.entries.Entries.set_at.Goals as goal

pub change_at-requires : goal.change_at-requires
change_at-requires g c =
    let at = stands-at c.self.invariant c.args.item c.in-Some.place (sym c.in-Some.is ∙ rw (← c.self.view_is) at c.requires.place) in
    (search rules, (search (rules, c.self.invariant.words_fit), at.0))

pub invariant_of-self : goal.invariant_of-self
invariant_of-self g c =
    let at = stands-at c.self.invariant c.args.item c.in-Some.place (sym c.in-Some.is ∙ rw (← c.self.view_is) at c.requires.place) in
    rw (c.change_at.ensures, c.words_in-suiting.ensures, c.waiting_after-self-inside.ensures, c.waits.ensures)
    (set-way-kept c.self.invariant c.args.item c.args.state c.args.words (rw (← c.self.view_is) at c.requires.alone) at.1.0 at.1.1 _ (put-both c.self.inside.memory c.args.item at.1.0 c.args.state _ at.1.1))

pub returns-in-Some : goal.returns-in-Some
returns-in-Some g c =
    let at = stands-at c.self.invariant c.args.item c.in-Some.place (sym c.in-Some.is ∙ rw (← c.self.view_is) at c.requires.place) in
    let put = put-both c.self.inside.memory c.args.item at.1.0 c.args.state (words_in c.args.state g.row.WORDS c.args.words) at.1.1 in
    rw (← c.self.view_is, c.change_at.ensures, c.words_in-suiting.ensures)
    (fate-is c.args.item (becomes c.args.state (words_in c.args.state g.row.WORDS c.args.words)) c.self.inside.memory.sets _ c.self.inside.buffer.capacity _ _ _ _ put.sets (set-way-ways c.self.invariant c.args.item c.args.state c.args.words (rw (← c.self.view_is) at c.requires.alone) at.1.0 at.1.1 _ put) (set-way-buffer c.self.invariant c.args.item c.args.state c.args.words (rw (← c.self.view_is) at c.requires.alone) at.1.0 at.1.1 _ put))

pub set_state-requires : goal.set_state-requires
set_state-requires g c =
    let none = stands-nowhere c.self.invariant c.args.item (sym c.in_default.is ∙ rw (← c.self.view_is) at c.requires.place) in
    let f = elsewhere c.self.invariant c.args.item (rw (← c.self.view_is) at c.requires.there) none in
    (search rules, rw f.1.1 refl)

pub set_words-requires : goal.set_words-requires
set_words-requires g c =
    let none = stands-nowhere c.self.invariant c.args.item (sym c.in_default.is ∙ rw (← c.self.view_is) at c.requires.place) in
    let f = elsewhere c.self.invariant c.args.item (rw (← c.self.view_is) at c.requires.there) none in
    (search rules, (search (rules, c.self.invariant.words_fit), rw c.set_state.ensures (in_state-there c.args.item c.args.state c.self.inside.buffer.list f.1.0 f.1.1)))

pub invariant_of-self-2 : goal.invariant_of-self-2
invariant_of-self-2 g c =
    let none = stands-nowhere c.self.invariant c.args.item (sym c.in_default.is ∙ rw (← c.self.view_is) at c.requires.place) in
    let f = elsewhere c.self.invariant c.args.item (rw (← c.self.view_is) at c.requires.there) none in
    rw (c.set_words.ensures, c.set_state.ensures, c.words_in-suiting.ensures, c.waiting_after-self-inside.ensures, c.waits.ensures) (set-buffer-kept c.self.invariant c.args.item c.args.state c.args.words (rw (← c.self.view_is) at c.requires.alone) f.1.0 f.0 f.1.1)

pub returns : goal.returns
returns g c =
    let none = stands-nowhere c.self.invariant c.args.item (sym c.in_default.is ∙ rw (← c.self.view_is) at c.requires.place) in
    let f = elsewhere c.self.invariant c.args.item (rw (← c.self.view_is) at c.requires.there) none in
    rw (← c.self.view_is, c.set_words.ensures, c.set_state.ensures, c.words_in-suiting.ensures)
    (fate-is c.args.item (becomes c.args.state (words_in c.args.state g.row.WORDS c.args.words)) c.self.inside.memory.sets _ c.self.inside.buffer.capacity _ _ _ _ refl (set-buffer-ways c.self.invariant c.args.item c.args.state c.args.words (rw (← c.self.view_is) at c.requires.alone) f.1.0 f.0 f.1.1) (set-buffer-buffer c.self.invariant c.args.item c.args.state c.args.words (rw (← c.self.view_is) at c.requires.alone) f.1.0 f.0 f.1.1))
