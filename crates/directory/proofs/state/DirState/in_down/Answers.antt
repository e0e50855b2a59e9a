use Rattle.std.proofs.Common.{◌∙◌, ap, sym}
use Rattle.directory.specs.TreeModel.State.Directory.{in_down}
use Rattle.directory.proofs.Lists.{in_down-any}
use Rattle.directory.proofs.state.DirState.in_down.Goals as goal

pub returns : goal.returns
returns g c = c.holds_item.ensures ∙ sym (in_down-any c.args.item c.self.inside.down.list) ∙ ap (in_down c.args.item) c.self.view_is
