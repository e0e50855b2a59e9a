use Rattle.std.proofs.Common.{refl, ap, ◌∙◌}
use Rattle.serving_model.specs.Walk.{ask_turns}
use Rattle.serving_walk.specs.Parts.{part_at}
use Rattle.serving_walk.proofs.Walks.{adds-nothing, adds-more, adds-same, nothing, ask-over}
use Rattle.serving_walk.proofs.reading.+ask.Goals as goal

pub returns-in_default : goal.returns-in_default
returns-in_default g t c = adds-nothing _ _ (nothing (g.T.Tree.value c.args.tree.now) (ask_turns c.args.leaf) (λ v. refl) c.args.part c.in_default.is)

pub returns : goal.returns
returns g t c = adds-same _ _ _ _ (adds-more _ _ _ _ _ c.in_ok-ask.ensures c.in_ok-push.ensures.items) (ap (λ p. ask_turns c.args.leaf (part_at p (g.T.Tree.value c.args.tree.now))) c.in-Some.is ∙ ask-over (g.T.Tree.value c.args.tree.now) c.requires.shaped c.in-Some.bus c.in-Some-over.child c.in-Some-over.ensures.child c.below.result c.below.ensures.same c.args.leaf c.in-Some-over.ensures.over)
