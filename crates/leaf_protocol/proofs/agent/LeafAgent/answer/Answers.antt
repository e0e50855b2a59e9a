use Rattle.std.proofs.Common.{ap, sym, ◌∙◌}
use lib.ListN.{length-map}
use Rattle.leaf_protocol.specs.TreeModel.State.Values.{leaf_node}
use Rattle.leaf_protocol.specs.Leaf.{leaf_of, copy_value}
use Rattle.leaf_protocol.proofs.TreeModel.LeafRooms.{ways_after-length}
use Rattle.leaf_protocol.specs.TreeModel.State.Leaf.{becomes, words_in, entry_words, entry_at}
use Rattle.leaf_protocol.proofs.Changing.{told-ok}
use Rattle.leaf_protocol.proofs.Told.{answer-none, answer-stays, answer-becomes, parts-same, parts-replied, copies-append, not-full, words-here}
use Rattle.leaf_protocol.proofs.agent.LeafAgent.answer.Goals as goal

pub returns-in_default : goal.returns-in_default
returns-in_default g c = rw (← c.self.view_is) (ap leaf_node (sym (answer-none c.args.item (leaf_of g.row.WAYS g.row.WORDS c.self.inside.number c.self.inside.entries c.self.inside.slot c.self.inside.replies c.self.inside.reservation c.self.inside.hart) c.in_default.ensures.state)))

pub returns-in_default-leaf_answer : goal.returns-in_default-leaf_answer
returns-in_default-leaf_answer g c = rw (← c.self.view_is) (ap leaf_node (sym (answer-stays c.args.item (leaf_of g.row.WAYS g.row.WORDS c.self.inside.number c.self.inside.entries c.self.inside.slot c.self.inside.replies c.self.inside.reservation c.self.inside.hart) c.in-Some.state c.in-Some.ensures.state c.in_default-leaf_answer.ensures)))

pub invariant_of-self : goal.invariant_of-self
invariant_of-self g c =
    let room = not-full _ _ (rw (← c.self.view_is) at c.requires.room) in
    let full = rw (length-map c.self.inside.replies.list copy_value) at room in
    let put = told-ok c.push.result (c.push.ensures.test ∙ full) c.push.ensures.ok in
    let inside = rw (← c.self.view_is, c.self.invariant.items) at c.requires.in_range in
    rw c.set_state_at.ensures (parts-same _ (parts-replied c.push.new.self (c.args.item, c.words_at-words.result) c.self.invariant inside put) (ways_after-length c.args.item (becomes c.in-Some-leaf_answer.next (words_in c.in-Some-leaf_answer.next g.row.WORDS (entry_words (entry_at c.args.item c.self.inside.entries.ways c.self.inside.entries.buffer)))) c.self.inside.entries.ways))

pub returns : goal.returns
returns g c =
    let room = not-full _ _ (rw (← c.self.view_is) at c.requires.room) in
    let full = rw (length-map c.self.inside.replies.list copy_value) at room in
    let put = told-ok c.push.result (c.push.ensures.test ∙ full) c.push.ensures.ok in
    let here = words-here _ c.words_at-words.result c.words_at-words.ensures in
    rw (← c.self.view_is, c.set_state_at.ensures, put, copies-append, ← here) (ap leaf_node (sym (answer-becomes c.args.item (leaf_of g.row.WAYS g.row.WORDS c.self.inside.number c.self.inside.entries c.self.inside.slot c.self.inside.replies c.self.inside.reservation c.self.inside.hart) c.in-Some.state c.in-Some-leaf_answer.next c.in-Some.ensures.state c.in-Some-leaf_answer.ensures)))
