use Rattle.std.proofs.Common.{rules, ◌<◌, flat_map, refl, ap, arith}
use Rattle.film.specs.TreeModel.State.Shape.{tree_counts}
use Rattle.film.specs.TreeModel.Turns.Machine.{machine_leaves}
use Rattle.film.specs.FilmModel.Leaf.{leaf_parts}
use Rattle.film.proofs.DdmTree.LeafList.{leaf-there, leaves-counted}
use Rattle.film.proofs.EachLeaf.{leaf_form_of, leaf_next, machine_ok, told_last, told_next, width_is}
use Rattle.film.proofs.stills.add_leaves.Goals as goal

pub add_leaf-requires : goal.add_leaf-requires
add_leaf-requires g c =
    let m = c.args.machine.now.machine in
    let leaves = ap (λ n. n.leaves) c.counts-leaf-end.ensures.counts in
    let below : c.leaves.leaf < (tree_counts m).leaves = omega (arith, leaves, c.leaves-test.true) in
    (search rules, (c.requires.small, (c.counts-leaf-end.ensures.shape, leaf-there c.leaves.leaf m c.counts-leaf-end.ensures.shape below)))

pub leaves-init : goal.leaves-init
leaves-init g c = refl

pub leaves-preserved : goal.leaves-preserved
leaves-preserved g c =
    let m = c.args.machine.now.machine in
    let leaves = ap (λ n. n.leaves) c.counts-leaf-end.ensures.counts in
    let below : c.leaves.leaf < (tree_counts m).leaves = omega (arith, leaves, c.leaves-test.true) in
    let next = leaf_next c.requires.filmed.most c.leaves.leaf m (machine_ok m c.counts-leaf-end.ensures.rules) c.requires.filmed.form below in
    told_next leaf_parts (machine_leaves m) c.leaves.leaf next.v c.args.still.now (flat_map leaf_parts (machine_leaves m)) c.leaves.still _ next.cut c.leaves.invariant
    (c.in_ok-add_leaf.ensures next.v c.requires.filmed.most next.got next.filmed.ways (leaf_form_of (width_is m.items.size m.top.sizes.width c.sizes-width.result.item_words (ap (λ z. z.item_words) c.sizes-width.ensures) c.requires.filmed.width) next.filmed))

pub returns : goal.returns
returns g c =
    let m = c.args.machine.now.machine in
    let leaves = ap (λ n. n.leaves) c.counts-leaf-end.ensures.counts in
    told_last leaf_parts (machine_leaves m) c.leaves.leaf c.args.still.now (flat_map leaf_parts (machine_leaves m)) c.leaves.still (omega (arith, leaves, leaves-counted m, c.leaves-test.false)) c.leaves.invariant
