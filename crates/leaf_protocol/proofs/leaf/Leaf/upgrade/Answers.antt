use Rattle.leaf_protocol.specs.DdmTypes.declared.answers.TxKind.TheVariants.{EraseTx}
use Rattle.leaf_protocol.specs.DdmTypes.declared.sizes.LeafState.TheVariants.{Waiting}
use Rattle.leaf_protocol.specs.TreeModel.State.Leaf.{becomes, words_in, entry_words, entry_at}
use Rattle.leaf_protocol.proofs.TreeModel.LeafRooms.{ways_after-length}
use Rattle.leaf_protocol.proofs.Told.{parts-same, parts-asked}
use Rattle.leaf_protocol.proofs.leaf.Leaf.upgrade.Goals as goal

pub invariant_of-self : goal.invariant_of-self
invariant_of-self g c =
    let inside = rw (← c.self.view_is, c.self.invariant.items) at c.requires.inside in
    rw c.set_state_at.ensures (parts-asked EraseTx c.args.item (parts-same _ c.self.invariant (ways_after-length c.args.item (becomes Waiting (words_in Waiting g.row.WORDS (entry_words (entry_at c.args.item c.self.inside.entries.ways c.self.inside.entries.buffer)))) c.self.inside.entries.ways)) inside)
