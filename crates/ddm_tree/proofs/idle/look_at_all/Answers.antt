use Rattle.std.proofs.Common.{◌≡◌, length, map, vec_items, arith, subst}
use Rattle.std.proofs.lemmas.Option.{slice_get-get_or}
use Rattle.ddm_tree.specs.TreeModel.State.Values.{dir_node, nodes}
use Rattle.ddm_tree.specs.Idle.{AreSeen}
use Rattle.ddm_tree.specs.Quiet.{IsNoneOf}
use Rattle.ddm_tree.proofs.Resting.{seen-more}
use Rattle.ddm_tree.proofs.QuietTable.{same-then}
use Rattle.ddm_tree.proofs.idle.look_at_all.Goals as goal

pub loop-leaf-preserved : goal.loop-leaf-preserved
loop-leaf-preserved g c =
    let there = slice_get-get_or c.args.leaves.now c.loop-leaf.leaf-index 0 c.loop-leaf-test.true in (
      λ d. seen-more _ _ c.args.answered.now c.loop-leaf.leaf-index _ c.args.leaves.now c.args.idle.now c.loop-leaf.idle c.look_after.new.idle there (c.loop-leaf.invariant.0 d) (c.look_after.ensures.looked d),
      λ agree. c.look_after.ensures.harts (c.loop-leaf.invariant.1 agree),
      record { each = λ k. same-then (c.loop-leaf.invariant.2.each k) (c.look_after.ensures.buses.each k) },
    )

pub returns-clause-seen : goal.returns-clause-seen
returns-clause-seen g c = λ d.
    let all : c.loop-leaf.leaf-index ≡ length c.args.leaves.now = omega (arith, c.loop-leaf-test.false, c.loop-leaf.auto.leaf-index-end) in
    subst (λ count. AreSeen c.args.answered.now (λ k. IsNoneOf k count c.args.leaves.now) (map vec_items c.args.leaf_paths.now) (dir_node d (nodes (map g.C.Agent.value c.args.children.now))) c.args.idle.now c.loop-leaf.idle) all (c.loop-leaf.invariant.0 d)
