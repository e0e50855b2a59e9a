use Rattle.std.proofs.Common.{[], ◌∷◌, ◌++◌}
use Rattle.std.proofs.lemmas.Result.{on_ok_weaker}
use Rattle.headline.specs.DdmTypes.declared.turns.Turn.{Turn}
use Rattle.serving_model.specs.Walk.{ask_turns, give_turns, take_turns}
use Rattle.serving_walk.specs.Parts.{part_at}
use Rattle.serving_walk.proofs.Walks.{adds-more, adds-same, across-none, across}
use Rattle.serving_walk.proofs.reading.read_across.Goals as goal

pub returns-in_default : goal.returns-in_default
returns-in_default g c =
    adds-same _ _ _ _ (adds-more c.args.out.now.items (ask_turns c.args.leaf (part_at c.below.result (g.T.Tree.value c.args.tree.now))) (Turn.Request c.args.bus c.args.child ∷ []) c.push.new.self.items c.ask.new.out.items c.in_ok-ask.ensures c.in_ok-push.ensures.items)
    (across-none (g.T.Tree.value c.args.tree.now) c.requires.shaped c.args.bus c.args.child c.requires.child c.below.result c.below.ensures.same c.args.leaf c.args.item c.in_default.ensures.holder)

pub returns : goal.returns
returns g c =
    on_ok_weaker c.take.result (λ e. adds-same _ _ _ _ (adds-more c.args.out.now.items (ask_turns c.args.leaf (part_at c.below.result (g.T.Tree.value c.args.tree.now))) (Turn.Request c.args.bus c.args.child ∷ (give_turns c.args.item (part_at c.below-2.result (g.T.Tree.value c.args.tree.now)) ++ Turn.Reply c.args.bus c.in-Some.other ∷ take_turns c.args.leaf (part_at c.below-3.result (g.T.Tree.value c.args.tree.now)))) c.take.new.out.items c.ask.new.out.items c.in_ok-ask.ensures
    (adds-more c.ask.new.out.items (Turn.Request c.args.bus c.args.child ∷ []) (give_turns c.args.item (part_at c.below-2.result (g.T.Tree.value c.args.tree.now)) ++ Turn.Reply c.args.bus c.in-Some.other ∷ take_turns c.args.leaf (part_at c.below-3.result (g.T.Tree.value c.args.tree.now))) c.take.new.out.items c.push.new.self.items c.in_ok-push.ensures.items
    (adds-more c.push.new.self.items (give_turns c.args.item (part_at c.below-2.result (g.T.Tree.value c.args.tree.now))) (Turn.Reply c.args.bus c.in-Some.other ∷ take_turns c.args.leaf (part_at c.below-3.result (g.T.Tree.value c.args.tree.now))) c.take.new.out.items c.give.new.out.items c.in_ok-give.ensures
    (adds-more c.give.new.out.items (Turn.Reply c.args.bus c.in-Some.other ∷ []) (take_turns c.args.leaf (part_at c.below-3.result (g.T.Tree.value c.args.tree.now))) c.take.new.out.items c.push-2.new.self.items c.in_ok-push-2.ensures.items e))))
    (across (g.T.Tree.value c.args.tree.now) c.requires.shaped c.args.bus c.args.child c.in-Some.other c.requires.child c.in-Some.ensures.child c.below.result c.below-2.result c.below-3.result c.below.ensures.same c.below-2.ensures.same c.below-3.ensures.same c.args.leaf c.args.item c.in-Some.ensures.holder)) c.take.ensures
