use Rattle.std.proofs.Common.{◌<◌, ◌≤◌, [], ◌++◌, flat_map, length, sym, ap, ◌∙◌, arith, rules, append-nil}
use Rattle.std.proofs.lemmas.List.{take_all}
use Rattle.tree_model.specs.State.Shape.{tree_counts}
use Rattle.tree_model.specs.Turns.Machine.{machine_leaves}
use Rattle.state_words.specs.Parts.{leaf_words}
use Rattle.state_words.specs.Machine.{words_or_none}
use Rattle.any_runs.proofs.DdmTree.LeafList.{leaf-there, leaves-counted}
use Rattle.machine_states.proofs.Leaves.{leaf-at, leaf-asked}
use Rattle.machine_states.proofs.Loops.{flat-place}
use Rattle.machine_states.proofs.parts.push_leaves.Goals as goal

pub write_leaf-requires : goal.write_leaf-requires
write_leaf-requires g c =
    let leaves = ap (λ n. n.leaves) c.counts-leaf-end.ensures.counts in
    let below : c.loop-leaf.leaf < (tree_counts c.args.machine.now.machine).leaves = omega (arith, leaves, c.loop-leaf-test.true) in
    (search rules, leaf-there c.loop-leaf.leaf c.args.machine.now.machine c.counts-leaf-end.ensures.shape below)

pub loop-leaf-init : goal.loop-leaf-init
loop-leaf-init g c = sym (append-nil c.args.out.now.items)

pub loop-leaf-preserved : goal.loop-leaf-preserved
loop-leaf-preserved g c =
    let m = c.args.machine.now.machine in
    let shaped = c.counts-leaf-end.ensures.shape in
    let leaves = ap (λ n. n.leaves) c.counts-leaf-end.ensures.counts in
    let below : c.loop-leaf.leaf < (tree_counts m).leaves = omega (arith, leaves, c.loop-leaf-test.true) in
    let there = leaf-at m shaped c.loop-leaf.leaf below in
    c.in_ok-write_leaf.ensures.ok.is ∙ ap (λ o. c.loop-leaf.out.items ++ words_or_none o) (leaf-asked m shaped leaf_words [] c.loop-leaf.leaf there)
    ∙ flat-place leaf_words (machine_leaves m) c.loop-leaf.leaf there.leaf c.args.out.now.items c.loop-leaf.out.items there.at c.loop-leaf.invariant

pub returns : goal.returns
returns g c =
    let m = c.args.machine.now.machine in
    let leaves = ap (λ n. n.leaves) c.counts-leaf-end.ensures.counts in
    let past : length (machine_leaves m) ≤ c.loop-leaf.leaf = omega (arith, leaves, leaves-counted m, c.loop-leaf-test.false) in
    c.loop-leaf.invariant ∙ ap (λ vs. c.args.out.now.items ++ flat_map leaf_words vs) (take_all c.loop-leaf.leaf (machine_leaves m) past)
