use Rattle.std.proofs.Common.{◌∙◌, ap, sym, map}
use Rattle.directory.specs.Packed.{packed_item}
use Rattle.directory.proofs.ItemWords.{words-again}
use Rattle.directory.proofs.table.ItemTable.packed.Goals as goal

pub returns : goal.returns
returns c = c.as_slice.ensures.value ∙ sym (words-again c.self.inside.words.items c.self.invariant) ∙ ap (map packed_item) c.self.view_is
