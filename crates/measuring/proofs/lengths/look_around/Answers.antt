use Rattle.std.proofs.Common.{◌∙◌, ◌<◌, ◌≤◌, Some, length, refl, sym, ap, arith, rules}
use Rattle.std.proofs.lemmas.Bool.{eq-eqb}
use Rattle.std.proofs.lemmas.List.{take_all}
use Rattle.recording_model.specs.TreeModel.Turns.Tree.{bus_of_number, leaf_of_number}
use Rattle.tree_model.specs.declared.TreeChild.{TreeChild}
use Rattle.measuring.specs.Seen.{labels_of, seen_in, seen_over}
use Rattle.measuring.proofs.Bones.{child-part, child-there, labels-counted}
use Rattle.measuring.proofs.Looked.{in-next, over-next}
use Rattle.measuring.proofs.lengths.look_around.Goals.{in-LeafChild, in-BusChild}
use Rattle.measuring.proofs.lengths.look_around.Goals as goal

pub look_in-requires : goal.look_in-requires
look_in-requires g c =
    let m = c.args.machine.now.machine in
    let count = labels-counted c.args.bus c.children-child-end.result m c.children-child-end.ensures in
    let inside : c.loop-child.child < length (labels_of c.args.bus m) = omega (arith, count, c.loop-child-test.true) in
    let there = child-there c.args.bus c.loop-child.child c.child.result m inside c.child.ensures in
    (search rules, child-part c.args.bus c.loop-child.child c.child.result (leaf_of_number c.in-LeafChild.leaf) m there (rw c.in-LeafChild.is (eq-eqb c.in-LeafChild.leaf c.in-LeafChild.leaf refl)))

pub look_over-requires-in-BusChild : goal.look_over-requires-in-BusChild
look_over-requires-in-BusChild g c =
    let m = c.args.machine.now.machine in
    let count = labels-counted c.args.bus c.children-child-end.result m c.children-child-end.ensures in
    let inside : c.loop-child.child < length (labels_of c.args.bus m) = omega (arith, count, c.loop-child-test.true) in
    let there = child-there c.args.bus c.loop-child.child c.child.result m inside c.child.ensures in
    (search rules, child-part c.args.bus c.loop-child.child c.child.result (bus_of_number c.in-BusChild.below) m there (rw c.in-BusChild.is (eq-eqb c.in-BusChild.below c.in-BusChild.below refl)))

pub loop-child-preserved : goal.loop-child-preserved
loop-child-preserved g c =
    let m = c.args.machine.now.machine in
    let i = c.loop-child.child in
    let cs = labels_of c.args.bus m in
    let first = seen_over m c.args.bus c.args.most.now.items in
    let count = labels-counted c.args.bus c.children-child-end.result m c.children-child-end.ensures in
    let inside : i < length cs = omega (arith, count, c.loop-child-test.true) in
    let there = child-there c.args.bus i c.child.result m inside c.child.ensures in
    elim c.match-child.branch [
      | in-LeafChild w ↦
          let here = there ∙ ap Some w.in-LeafChild.is in
          record {
            most = ap (λ v. v.items) w.most-is ∙ c.loop-child.invariant.most ∙ sym (over-next m i cs (TreeChild.LeafChild w.in-LeafChild.leaf) first here);
            leaf_most = ap (λ v. v.items) w.leaf_most-is ∙ w.look_in.ensures ∙ ap (seen_in m w.in-LeafChild.leaf) c.loop-child.invariant.leaf_most ∙ sym (in-next m i cs (TreeChild.LeafChild w.in-LeafChild.leaf) c.args.leaf_most.now.items here);
          }
      | in-BusChild w ↦
          let here = there ∙ ap Some w.in-BusChild.is in
          record {
            most = ap (λ v. v.items) w.most-is ∙ w.look_over-in-BusChild.ensures ∙ ap (seen_over m w.in-BusChild.below) c.loop-child.invariant.most ∙ sym (over-next m i cs (TreeChild.BusChild w.in-BusChild.below) first here);
            leaf_most = ap (λ v. v.items) w.leaf_most-is ∙ c.loop-child.invariant.leaf_most ∙ sym (in-next m i cs (TreeChild.BusChild w.in-BusChild.below) c.args.leaf_most.now.items here);
          }
    ]

pub returns-clause-most : goal.returns-clause-most
returns-clause-most g c =
    let m = c.args.machine.now.machine in
    let count = labels-counted c.args.bus c.children-child-end.result m c.children-child-end.ensures in
    let past : length (labels_of c.args.bus m) ≤ c.loop-child.child = omega (arith, count, c.loop-child-test.false) in
    rw (take_all c.loop-child.child (labels_of c.args.bus m) past) at c.loop-child.invariant.most

pub returns-clause-leaf_most : goal.returns-clause-leaf_most
returns-clause-leaf_most g c =
    let m = c.args.machine.now.machine in
    let count = labels-counted c.args.bus c.children-child-end.result m c.children-child-end.ensures in
    let past : length (labels_of c.args.bus m) ≤ c.loop-child.child = omega (arith, count, c.loop-child-test.false) in
    rw (take_all c.loop-child.child (labels_of c.args.bus m) past) at c.loop-child.invariant.leaf_most
