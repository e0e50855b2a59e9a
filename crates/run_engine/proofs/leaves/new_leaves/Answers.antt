use Rattle.std.proofs.Common.{◌≡◌, ◌++◌, ◌∷◌, [], map, ap, ◌∙◌, arith}
use Rattle.std.specs.List.{range_with_len}
use Rattle.run_engine.specs.TreeModel.Start.Nodes.{leaf_sizes, new_leaf}
use Rattle.run_engine.proofs.Placing.{made-more}
use Rattle.run_engine.proofs.leaves.new_leaves.Goals as goal

pub loop-leaf-init : goal.loop-leaf-init
loop-leaf-init g c = c.new-leaves.ensures.items

pub loop-leaf-preserved : goal.loop-leaf-preserved
loop-leaf-preserved g c =
    let make = new_leaf (leaf_sizes c.args.config.now g.row.WAYS g.row.WORDS) c.args.start c.args.items in
    c.in_ok-push.ensures.items ∙ ap (λ ls. ls ++ c.in_ok-new.field-0 ∷ []) c.loop-leaf.invariant ∙ ap (λ l. map make (range_with_len 0 c.loop-leaf.leaf) ++ l ∷ []) c.in_ok-new.ensures ∙ made-more make c.loop-leaf.leaf

pub returns : goal.returns
returns g c =
    let all : c.loop-leaf.leaf ≡ c.args.start.harts = omega (arith, c.loop-leaf.auto.leaf-end, c.loop-leaf-test.false) in
    c.loop-leaf.invariant ∙ ap (λ n. map (new_leaf (leaf_sizes c.args.config.now g.row.WAYS g.row.WORDS) c.args.start c.args.items) (range_with_len 0 n)) all
