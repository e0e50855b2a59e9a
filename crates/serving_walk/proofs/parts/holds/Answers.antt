use Rattle.std.proofs.Common.{ap, ◌∙◌}
use Rattle.headline.specs.TreeModel.State.States.{is_held}
use Rattle.serving_walk.proofs.AtBus.{hold-is}
use Rattle.serving_walk.proofs.parts.holds.Goals as goal

pub returns : goal.returns
returns g c = c.is_held.ensures ∙ ap is_held (hold-is (g.T.Tree.value c.args.tree.now) c.requires.shaped c.args.bus c.args.child c.requires.child c.args.item c.child_hold.result c.child_hold.ensures)
