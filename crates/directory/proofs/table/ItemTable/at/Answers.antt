use Rattle.directory.specs.Packed.{unpacked_item}
use Rattle.directory.proofs.ItemWords.{word-within, packed-at}
use Rattle.directory.proofs.table.ItemTable.at.Goals as goal

pub of_word-requires : goal.of_word-requires
of_word-requires c =
    packed-at c.self.inside.words.items c.item.inside.0 _ c.self.invariant (word-within unpacked_item _ _ _ _ c.self.view_is c.item.view_is c.requires) c.index.ensures
