use Rattle.std.proofs.Common.{[], refl, ap, ◌∷◌, ◌∙◌}
use Rattle.headline.specs.DdmTypes.declared.turns.Turn.{Turn}
use Rattle.serving_model.specs.Walk.{give_turns}
use Rattle.serving_walk.specs.Parts.{part_at}
use Rattle.serving_walk.proofs.Walks.{adds-nothing, adds-more, adds-same, nothing, there-is, give-none, give-from}
use Rattle.serving_walk.proofs.reading.+give.Goals as goal

pub returns-in_default : goal.returns-in_default
returns-in_default g t c = adds-nothing _ _ (nothing (g.T.Tree.value c.args.tree.now) (give_turns c.args.item) (λ v. refl) c.args.part c.in_default.is)

pub returns-in_default-holder : goal.returns-in_default-holder
returns-in_default-holder g t c = adds-same _ _ _ _ c.in_ok-push.ensures.items (ap (λ p. give_turns c.args.item (part_at p (g.T.Tree.value c.args.tree.now))) c.in-Some.is ∙ give-none (g.T.Tree.value c.args.tree.now) c.requires.shaped c.in-Some.bus (there-is (g.T.Tree.value c.args.tree.now) c.args.part c.in-Some.bus c.in-Some.is c.requires.there) c.args.item c.in_default-holder.ensures.holder)

pub returns : goal.returns
returns g t c =
    adds-same _ _ _ _ (adds-more c.args.out.now.items (Turn.Down c.in-Some.bus ∷ give_turns c.args.item (part_at c.below.result (g.T.Tree.value c.args.tree.now))) (Turn.Reply c.in-Some.bus c.in-Some-holder.child ∷ []) c.push-2.new.self.items c.give.new.out.items
    (adds-more c.args.out.now.items (Turn.Down c.in-Some.bus ∷ []) (give_turns c.args.item (part_at c.below.result (g.T.Tree.value c.args.tree.now))) c.give.new.out.items c.push.new.self.items c.in_ok-push.ensures.items c.in_ok-give.ensures) c.in_ok-push-2.ensures.items)
    (ap (λ p. give_turns c.args.item (part_at p (g.T.Tree.value c.args.tree.now))) c.in-Some.is ∙ give-from (g.T.Tree.value c.args.tree.now) c.requires.shaped c.in-Some.bus c.in-Some-holder.child c.in-Some-holder.ensures.child c.below.result c.below.ensures.same c.args.item c.in-Some-holder.ensures.holder)
