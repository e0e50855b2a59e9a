use Rattle.std.proofs.Common.{Some, [], refl, sym, ap, ◌∷◌, ◌∙◌}
use Rattle.std.proofs.lemmas.Result.{on_ok_weaker}
use Rattle.headline.specs.DdmTypes.declared.turns.Turn.{Turn}
use Rattle.serving_model.specs.Walk.{clear_turns, take_turns, erase_turns}
use Rattle.serving_walk.specs.Parts.{part_at}
use Rattle.serving_walk.proofs.Walks.{adds-nothing, adds-more, adds-same, nothing, erase-below, erase-here}
use Rattle.serving_walk.proofs.erasing.+erase.Goals as goal

pub returns-in_default : goal.returns-in_default
returns-in_default g t c = adds-nothing _ _ (nothing (g.T.Tree.value c.args.tree.now) (erase_turns c.args.leaf c.args.item) (λ v. refl) c.args.part c.in_default.is)

pub returns-then-holds_exclusive : goal.returns-then-holds_exclusive
returns-then-holds_exclusive g t c =
    on_ok_weaker c.erase.result (λ e. adds-same _ _ _ _ e (ap (λ p. erase_turns c.args.leaf c.args.item (part_at p (g.T.Tree.value c.args.tree.now))) c.in-Some.is ∙ erase-below (g.T.Tree.value c.args.tree.now) c.requires.shaped c.in-Some.bus c.in-Some-over.child c.in-Some-over.ensures.child c.below.result c.below.ensures.same c.args.leaf c.args.item c.in-Some-over.ensures.over (sym c.if-holds_exclusive.true ∙ c.holds_exclusive.ensures))) c.erase.ensures

pub returns-in_ok-push : goal.returns-in_ok-push
returns-in_ok-push g t c =
    on_ok_weaker c.take.result (λ e. adds-same _ _ _ _ (adds-more c.args.out.now.items (clear_turns c.args.leaf c.args.item (part_at (Some c.in-Some.bus) (g.T.Tree.value c.args.tree.now))) (Turn.Down c.in-Some.bus ∷ take_turns c.args.leaf (part_at c.below-else-holds_exclusive.result (g.T.Tree.value c.args.tree.now))) c.take.new.out.items c.clear.new.out.items c.in_ok-clear.ensures
    (adds-more c.clear.new.out.items (Turn.Down c.in-Some.bus ∷ []) (take_turns c.args.leaf (part_at c.below-else-holds_exclusive.result (g.T.Tree.value c.args.tree.now))) c.take.new.out.items c.push.new.self.items c.in_ok-push.ensures.items e))
    (ap (λ p. erase_turns c.args.leaf c.args.item (part_at p (g.T.Tree.value c.args.tree.now))) c.in-Some.is ∙ (erase-here (g.T.Tree.value c.args.tree.now) c.requires.shaped c.in-Some.bus c.in-Some-over.child c.in-Some-over.ensures.child c.below-else-holds_exclusive.result c.below-else-holds_exclusive.ensures.same c.args.leaf c.args.item c.in-Some-over.ensures.over (sym c.if-holds_exclusive.false ∙ c.holds_exclusive.ensures)))) c.take.ensures
