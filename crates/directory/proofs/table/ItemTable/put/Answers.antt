use Rattle.std.proofs.Common.{◌∙◌, refl}
use Rattle.std.proofs.lemmas.List.{map-set}
use Rattle.std.proofs.lemmas.List.Elements.{All-set}
use Rattle.directory.specs.Packed.{unpacked_item, IsPacked}
use Rattle.directory.proofs.table.ItemTable.put.Goals as goal

pub invariant_of-self : goal.invariant_of-self
invariant_of-self c = All-set IsPacked c.self.inside.words.items c.item.inside.0 c.word.result c.word.ensures.packed c.self.invariant

pub returns : goal.returns
returns c =
    map-set unpacked_item c.self.inside.words.items c.item.inside.0 c.word.result
    ∙ rw (c.self.view_is, c.item.view_is, c.word.ensures.value) refl
