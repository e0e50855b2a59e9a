use Rattle.std.proofs.Common.{◌≡◌, ◌<◌, ◌≤◌, length, rules, sym, ap, ◌∙◌, arith}
use Rattle.std.proofs.lemmas.List.{append-nil, append_assoc, take_all}
use Rattle.inspector.specs.TreeModel.State.Shape.{tree_counts}
use Rattle.inspector.specs.TreeModel.Turns.Machine.{machine_leaves}
use Rattle.inspector.proofs.DdmTree.LeafList.{leaf-there, leaves-counted}
use Rattle.inspector.specs.Copies.{leaf_copies, place_list}
use Rattle.inspector.proofs.CopyLists.{leaf-copy}
use Rattle.inspector.proofs.OneMore.{item-there, more-of}
use Rattle.inspector.proofs.all_copies.push_leaf_copies.Goals as goal

pub loop-number-init : goal.loop-number-init
loop-number-init g c = sym (append-nil c.args.places.now.items)

pub leaf_entry-requires : goal.leaf_entry-requires
leaf_entry-requires g c =
    let leaves = ap (λ n. n.leaves) c.counts-number-end.ensures.counts in
    let below : c.loop-number.number < (tree_counts c.args.machine.now.machine).leaves = omega (arith, leaves, c.loop-number-test.true) in
    (search rules, (search rules, (leaf-there c.loop-number.number c.args.machine.now.machine c.counts-number-end.ensures.shape below, c.requires.item)))

pub loop-number-preserved : goal.loop-number-preserved
loop-number-preserved g c =
    let m = c.args.machine.now.machine in
    let x = c.args.item in
    let k = c.loop-number.number in
    let leaves = ap (λ n. n.leaves) c.counts-number-end.ensures.counts in
    let size = leaves-counted m in
    let here = item-there (machine_leaves m) k (omega (arith, leaves, size, c.loop-number-test.true)) in
    let copy : place_list c.entry_copy.result ≡ leaf_copies x here.0 = ap place_list c.entry_copy.ensures ∙ leaf-copy m k x here.0 c.leaf_entry.result c.counts-number-end.ensures.shape here.1 c.leaf_entry.ensures in
    c.in_ok-push_place.ensures ∙ rw (c.loop-number.invariant, copy, more-of (leaf_copies x) (machine_leaves m) k here.0 here.1) (append_assoc c.args.places.now.items _ (leaf_copies x here.0))

pub returns : goal.returns
returns g c =
    let m = c.args.machine.now.machine in
    let leaves = ap (λ n. n.leaves) c.counts-number-end.ensures.counts in
    let size = leaves-counted m in
    let past : length (machine_leaves m) ≤ c.loop-number.number = omega (arith, leaves, size, c.loop-number-test.false) in
    rw (take_all c.loop-number.number (machine_leaves m) past) at c.loop-number.invariant
