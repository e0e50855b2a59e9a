use Rattle.std.proofs.Common.{Some, [], refl, ap, ◌∷◌, ◌∙◌}
use Rattle.std.proofs.lemmas.Result.{on_ok_weaker}
use Rattle.headline.specs.DdmTypes.declared.turns.Turn.{Turn}
use Rattle.serving_model.specs.Walk.{clear_turns}
use Rattle.serving_walk.specs.Parts.{kids_of, part_at, lost_by}
use Rattle.serving_walk.proofs.Walks.{adds-nothing, adds-more, adds-same, nothing, clear-over}
use Rattle.serving_walk.proofs.erasing.+clear.Goals as goal

pub returns-in_default : goal.returns-in_default
returns-in_default g t c = adds-nothing _ _ (nothing (g.T.Tree.value c.args.tree.now) (clear_turns c.args.leaf c.args.item) (λ v. refl) c.args.part c.in_default.is)

pub returns : goal.returns
returns g t c =
    on_ok_weaker c.lose_all.result (λ e. adds-same _ _ _ _ (adds-more c.args.out.now.items (clear_turns c.args.leaf c.args.item (part_at c.below.result (g.T.Tree.value c.args.tree.now))) (Turn.Request c.in-Some.bus c.in-Some-over.child ∷ lost_by (Some c.in-Some-over.child) c.args.item (kids_of (part_at (Some c.in-Some.bus) (g.T.Tree.value c.args.tree.now)))) c.lose_all.new.out.items c.clear.new.out.items c.in_ok-clear.ensures
    (adds-more c.clear.new.out.items (Turn.Request c.in-Some.bus c.in-Some-over.child ∷ []) (lost_by (Some c.in-Some-over.child) c.args.item (kids_of (part_at (Some c.in-Some.bus) (g.T.Tree.value c.args.tree.now)))) c.lose_all.new.out.items c.push.new.self.items c.in_ok-push.ensures.items e))
    (ap (λ p. clear_turns c.args.leaf c.args.item (part_at p (g.T.Tree.value c.args.tree.now))) c.in-Some.is ∙ clear-over (g.T.Tree.value c.args.tree.now) c.requires.shaped c.in-Some.bus c.in-Some-over.child c.in-Some-over.ensures.child c.below.result c.below.ensures.same c.args.leaf c.args.item c.in-Some-over.ensures.over)) c.lose_all.ensures
