use Rattle.std.proofs.Common.{◌∙◌, ap, sym}
use Rattle.directory.specs.TreeModel.State.Directory.{parked_words}
use Rattle.directory.proofs.Lists.{parked-words}
use Rattle.directory.proofs.lower.DirStateParent.parked.Goals as goal

pub returns : goal.returns
returns g c = c.words.ensures ∙ sym (parked-words c.args.item c.self.inside.parking.list) ∙ ap (parked_words c.args.item) c.self.view_is
