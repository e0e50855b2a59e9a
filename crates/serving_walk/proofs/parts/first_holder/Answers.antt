use Rattle.std.proofs.Common.{sym, ◌∙◌}
use Rattle.headline.specs.TreeModel.Turns.Children.{holds_item}
use Rattle.serving_walk.proofs.Children.{found, none}
use Rattle.serving_walk.proofs.parts.first_holder.Goals as goal

pub returns-then-holds-clause-holder : goal.returns-then-holds-clause-holder
returns-then-holds-clause-holder g c = found (g.T.Tree.value c.args.tree.now) c.requires.shaped c.args.bus c.args.kids c.requires.kids (holds_item c.args.item) c.loop-child.child c.loop-child-test.true c.loop-child.invariant (sym c.holds.ensures ∙ c.if-holds.true)

pub returns-clause-holder : goal.returns-clause-holder
returns-clause-holder g c = none (g.T.Tree.value c.args.tree.now) c.requires.shaped c.args.bus c.args.kids c.requires.kids (holds_item c.args.item) c.loop-child.child c.loop-child-test.false c.loop-child.invariant
