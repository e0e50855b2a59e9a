use Rattle.std.proofs.Common.{sym, ap, ◌∙◌}
use Rattle.std.specs.Prelude.{is_some}
use Rattle.serving_model.specs.Walk.{is_over, child_over}
use Rattle.serving_walk.specs.Parts.{kids_of, under}
use Rattle.serving_walk.proofs.Children.{found, none, leaf-over, bus-over}
use Rattle.serving_walk.proofs.parts.+over.Goals as goal

pub first_over-returns-then-is_over-clause-over : goal.first_over-returns-then-is_over-clause-over
first_over-returns-then-is_over-clause-over g t c = found (g.T.Tree.value c.args.tree.now) c.requires.shaped c.args.bus c.args.kids c.requires.kids (is_over c.args.leaf) c.loop-child.child c.loop-child-test.true c.loop-child.invariant (sym c.is_over.ensures ∙ c.if-is_over.true)

pub first_over-returns-clause-over : goal.first_over-returns-clause-over
first_over-returns-clause-over g t c = none (g.T.Tree.value c.args.tree.now) c.requires.shaped c.args.bus c.args.kids c.requires.kids (is_over c.args.leaf) c.loop-child.child c.loop-child-test.false c.loop-child.invariant

pub is_over-returns-in-None : goal.is_over-returns-in-None
is_over-returns-in-None g t c = c.is_leaf.ensures ∙ leaf-over c.args.leaf c.args.child (under c.args.bus c.args.child (g.T.Tree.value c.args.tree.now)) c.in-None.ensures.bus

pub is_over-returns-in-Some : goal.is_over-returns-in-Some
is_over-returns-in-Some g t c =
    c.is_some.ensures ∙ (ap is_some c.over.ensures.over ∙ (ap (λ n. is_some (child_over c.args.leaf (kids_of n))) c.in-Some.ensures.part ∙ bus-over c.args.leaf c.args.child c.in-Some.part (under c.args.bus c.args.child (g.T.Tree.value c.args.tree.now)) c.in-Some.ensures.bus))
