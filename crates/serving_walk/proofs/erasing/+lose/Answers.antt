use Rattle.std.proofs.Common.{ℕ, List, Some, ap, ◌+◌, ◌++◌, ◌∙◌, take}
use Rattle.std.specs.List.{flat_map}
use Rattle.headline.specs.DdmTypes.declared.turns.Turn.{Turn}
use Rattle.serving_model.specs.Walk.{loses}
use Rattle.serving_walk.specs.Parts.{part_at, kids_of, under, each_but, lost_of}
use Rattle.serving_walk.proofs.Walks.{adds-more, adds-same, lost-more, lost-all}
use Rattle.serving_walk.proofs.erasing.+lose.Goals as goal

pub lose_all-loop-child-preserved : goal.lose_all-loop-child-preserved
lose_all-loop-child-preserved g t c =
    let each : List (List Turn) = each_but c.args.but.now (loses c.args.item (kids_of (part_at (Some c.args.bus) (g.T.Tree.value c.args.tree.now)))) in
    let lost : ℕ → List Turn = λ a. flat_map (λ turns. turns) (take a each) in
    adds-same c.args.out.now.items (lost c.loop-child.child ++ lost_of c.args.but.now c.args.item c.loop-child.child (under c.args.bus c.loop-child.child (g.T.Tree.value c.args.tree.now))) (lost (c.loop-child.child + 1)) c.lose_unless.new.out.items
    (adds-more c.args.out.now.items (lost c.loop-child.child) (lost_of c.args.but.now c.args.item c.loop-child.child (under c.args.bus c.loop-child.child (g.T.Tree.value c.args.tree.now))) c.lose_unless.new.out.items c.loop-child.out.items c.loop-child.invariant c.in_ok-lose_unless.ensures)
    (lost-more (g.T.Tree.value c.args.tree.now) c.requires.shaped c.args.bus c.args.kids c.requires.kids c.args.but.now c.args.item c.loop-child.child c.loop-child-test.true)

pub lose_all-returns : goal.lose_all-returns
lose_all-returns g t c = c.loop-child.invariant ∙ ap (λ ts. c.args.out.now.items ++ ts) (lost-all (g.T.Tree.value c.args.tree.now) c.requires.shaped c.args.bus c.args.kids c.requires.kids c.args.but.now c.args.item c.loop-child.child c.loop-child-test.false)
