use Rattle.std.proofs.Common.{◌∙◌, ap}
use Rattle.directory.specs.ItemStates.Parts.{joined_in}
use Rattle.directory.proofs.Packing.{unpacked-joined}
use Rattle.directory.proofs.packed.PackedItem.joined.Goals as goal

pub returns : goal.returns
returns c = unpacked-joined c.self.inside.word c.self.invariant ∙ ap (λ i. joined_in i.note) c.self.view_is
