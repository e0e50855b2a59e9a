use Rattle.std.proofs.Common.{sym, ◌∙◌}
use Rattle.headline.specs.TreeModel.Turns.Children.{other_holds}
use Rattle.serving_walk.proofs.Children.{found, none}
use Rattle.serving_walk.proofs.parts.first_other.Goals as goal

pub returns-then-other_holds-clause-holder : goal.returns-then-other_holds-clause-holder
returns-then-other_holds-clause-holder g c = found (g.T.Tree.value c.args.tree.now) c.requires.shaped c.args.bus c.args.kids c.requires.kids (other_holds c.args.than c.args.item) c.loop-child.child c.loop-child-test.true c.loop-child.invariant (sym c.other_holds.ensures ∙ c.if-other_holds.true)

pub returns-clause-holder : goal.returns-clause-holder
returns-clause-holder g c = none (g.T.Tree.value c.args.tree.now) c.requires.shaped c.args.bus c.args.kids c.requires.kids (other_holds c.args.than c.args.item) c.loop-child.child c.loop-child-test.false c.loop-child.invariant
