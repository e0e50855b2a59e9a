use Rattle.std.proofs.Common.{refl, sym, ap, ◌∙◌}
use Rattle.std.proofs.lemmas.Result.{on_ok_weaker}
use Rattle.serving_model.specs.Walk.{read_turns}
use Rattle.serving_walk.specs.Parts.{part_at}
use Rattle.serving_walk.proofs.Walks.{adds-nothing, adds-same, nothing, read-below, read-here}
use Rattle.serving_walk.proofs.reading.+read.Goals as goal

pub returns-in_default : goal.returns-in_default
returns-in_default g t c = adds-nothing _ _ (nothing (g.T.Tree.value c.args.tree.now) (read_turns c.args.leaf c.args.item) (λ v. refl) c.args.part c.in_default.is)

pub returns-then-holds : goal.returns-then-holds
returns-then-holds g t c =
    on_ok_weaker c.read.result (λ e. adds-same _ _ _ _ e (ap (λ p. read_turns c.args.leaf c.args.item (part_at p (g.T.Tree.value c.args.tree.now))) c.in-Some.is ∙ read-below (g.T.Tree.value c.args.tree.now) c.requires.shaped c.in-Some.bus c.in-Some-over.child c.in-Some-over.ensures.child c.below.result c.below.ensures.same c.args.leaf c.args.item c.in-Some-over.ensures.over (sym c.if-holds.true ∙ c.holds.ensures))) c.read.ensures

pub returns-else-holds : goal.returns-else-holds
returns-else-holds g t c =
    on_ok_weaker c.read_across.result (λ e. adds-same _ _ _ _ e (ap (λ p. read_turns c.args.leaf c.args.item (part_at p (g.T.Tree.value c.args.tree.now))) c.in-Some.is ∙ read-here (g.T.Tree.value c.args.tree.now) c.requires.shaped c.in-Some.bus c.in-Some-over.child c.in-Some-over.ensures.child c.args.leaf c.args.item c.in-Some-over.ensures.over (sym c.if-holds.false ∙ c.holds.ensures))) c.read_across.ensures
