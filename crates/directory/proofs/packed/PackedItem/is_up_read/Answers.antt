use Rattle.std.proofs.Common.{◌∙◌, ap, sym}
use Rattle.directory.specs.TreeModel.State.Directory.{is_up_read}
use Rattle.directory.proofs.Packing.{unpacked-up_read}
use Rattle.directory.proofs.packed.PackedItem.is_up_read.Goals as goal

pub returns : goal.returns
returns c = sym (unpacked-up_read c.self.inside.word) ∙ ap (λ i. is_up_read i.note) c.self.view_is
