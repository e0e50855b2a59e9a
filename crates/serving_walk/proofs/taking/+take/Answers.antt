use Rattle.std.proofs.Common.{refl, ap, ◌∙◌}
use Rattle.std.proofs.lemmas.Result.{on_ok_weaker}
use Rattle.serving_model.specs.Walk.{take_turns}
use Rattle.serving_walk.specs.Parts.{part_at}
use Rattle.serving_walk.proofs.Walks.{adds-nothing, adds-more, adds-same, nothing, there-is, take-none, take-over}
use Rattle.serving_walk.proofs.taking.+take.Goals as goal

pub returns-in_default : goal.returns-in_default
returns-in_default g t c = adds-nothing _ _ (nothing (g.T.Tree.value c.args.tree.now) (take_turns c.args.leaf) (λ v. refl) c.args.part c.in_default.is)

pub returns-in-Some-over : goal.returns-in-Some-over
returns-in-Some-over g t c =
    on_ok_weaker c.take.result (λ e. adds-same _ _ _ _ (adds-more _ _ _ _ _ c.in_ok-push.ensures.items e) (ap (λ p. take_turns c.args.leaf (part_at p (g.T.Tree.value c.args.tree.now))) c.in-Some.is ∙ take-over (g.T.Tree.value c.args.tree.now) c.requires.shaped c.in-Some.bus c.in-Some-over.child c.in-Some-over.ensures.child c.below.result c.below.ensures.same c.args.leaf c.in-Some-over.ensures.over)) c.take.ensures

pub returns-in-None : goal.returns-in-None
returns-in-None g t c = adds-same _ _ _ _ c.in_ok-push.ensures.items (ap (λ p. take_turns c.args.leaf (part_at p (g.T.Tree.value c.args.tree.now))) c.in-Some.is ∙ take-none (g.T.Tree.value c.args.tree.now) c.requires.shaped c.in-Some.bus (there-is (g.T.Tree.value c.args.tree.now) c.args.part c.in-Some.bus c.in-Some.is c.requires.there) c.args.leaf c.in-None.ensures.over)
