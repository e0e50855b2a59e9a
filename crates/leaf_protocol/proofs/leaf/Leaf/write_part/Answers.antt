use Rattle.std.proofs.Common.{arith}
use Rattle.std.proofs.lemmas.Option.{IfSome_then}
use Rattle.leaf_protocol.specs.DdmText.Adds.{◌▸◌}
use Rattle.leaf_protocol.specs.StateWords.Parts.{item_and_words, leaf_words}
use Rattle.leaf_protocol.proofs.StateWords.Mapped.{counted-map}
use Rattle.leaf_protocol.specs.Leaf.{copy_value}
use Rattle.leaf_protocol.proofs.leaf.Leaf.write_part.Goals as goal

pub reserved_word-requires : goal.reserved_word-requires
reserved_word-requires g c = rw c.item.ensures (IfSome_then c.self.inside.reservation c.self.invariant.reserved_inside (λ x inside. omega (arith, inside, c.self.invariant.numbered)))

pub returns-clause-ok : goal.returns-clause-ok
unfolding leaf_words
returns-clause-ok g c =
    let first = rw (c.reserved_word.ensures, c.item.ensures) at c.in_ok-push_words.ensures.ok in
    let second = rw c.slot_words.ensures at c.in_ok-push_words-2.ensures.ok in
    rw (← c.self.view_is, counted-map item_and_words copy_value c.self.inside.replies.list) (first ▸ second ▸ c.in_ok-write_standing.ensures.ok ▸ c.in_ok-write_buffer.ensures.ok ▸ c.in_ok-write.ensures.ok)
