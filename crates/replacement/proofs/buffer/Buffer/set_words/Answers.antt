use Rattle.replacement.specs.TreeModel.State.Leaf.{buffer_item}
use Rattle.replacement.specs.Arrived.{with_words}
use Rattle.replacement.proofs.Once.{held_changed, words_item}
use Rattle.replacement.proofs.buffer.Buffer.set_words.Goals as goal

pub invariant_of-self : goal.invariant_of-self
invariant_of-self g c =
    held_changed buffer_item (with_words c.args.item c.args.words) (words_item c.args.item c.args.words) c.self.inside.entries c.set_words_of.new.entries c.set_words_of.ensures c.self.invariant
