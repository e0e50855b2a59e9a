use Rattle.std.proofs.Common.{ap, ◌∙◌}
use Rattle.headline.specs.TreeModel.State.States.{is_exclusive}
use Rattle.serving_walk.proofs.AtBus.{hold-is}
use Rattle.serving_walk.proofs.parts.holds_exclusive.Goals as goal

pub returns : goal.returns
returns g c = c.is_exclusive.ensures ∙ ap is_exclusive (hold-is (g.T.Tree.value c.args.tree.now) c.requires.shaped c.args.bus c.args.child c.requires.child c.args.item c.child_hold.result c.child_hold.ensures)
