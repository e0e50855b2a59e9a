use Rattle.std.proofs.Common.{◌<◌, ◌≤◌, [], ◌++◌, flat_map, length, sym, ap, ◌∙◌, arith, rules, append-nil}
use Rattle.std.proofs.lemmas.List.{take_all}
use Rattle.tree_model.specs.State.Shape.{tree_counts}
use Rattle.tree_model.specs.Turns.Machine.{machine_leaves}
use Rattle.state_words.specs.Parts.{hart_words}
use Rattle.any_runs.specs.DdmText.Adds.{alone}
use Rattle.any_runs.proofs.DdmTree.LeafList.{leaf-there, leaves-counted}
use Rattle.machine_states.specs.Words.{timeless_hart}
use Rattle.machine_states.proofs.Places.{get-one}
use Rattle.machine_states.proofs.Leaves.{leaf-at, leaf-asked}
use Rattle.machine_states.proofs.Loops.{flat-place}
use Rattle.machine_states.proofs.Forms.{leaf-form}
use Rattle.state_words.specs.Machine.{words_or_none}
use Rattle.machine_states.proofs.parts.push_harts.Goals as goal

pub write_hart-requires : goal.write_hart-requires
write_hart-requires g c =
    let leaves = ap (λ n. n.leaves) c.counts-leaf-end.ensures.counts in
    let below : c.loop-leaf.leaf < (tree_counts c.args.machine.now.machine).leaves = omega (arith, leaves, c.loop-leaf-test.true) in
    (search rules, leaf-there c.loop-leaf.leaf c.args.machine.now.machine c.counts-leaf-end.ensures.shape below)

pub loop-leaf-init : goal.loop-leaf-init
loop-leaf-init g c = sym (append-nil c.args.out.now.items)

pub loop-leaf-preserved : goal.loop-leaf-preserved
loop-leaf-preserved g c =
    let m = c.args.machine.now.machine in
    let shaped = c.counts-leaf-end.ensures.shape in
    let leaves = ap (λ n. n.leaves) c.counts-leaf-end.ensures.counts in
    let below : c.loop-leaf.leaf < (tree_counts m).leaves = omega (arith, leaves, c.loop-leaf-test.true) in
    let there = leaf-at m shaped c.loop-leaf.leaf below in
    let words = c.deref.ensures.value ∙ alone c.in_ok-write_hart.ensures.ok c.clear.ensures.items ∙ ap words_or_none (leaf-asked m shaped hart_words [] c.loop-leaf.leaf there) in
    c.in_ok-push_hart.ensures there.leaf (leaf-form m c.requires there.leaf (get-one (machine_leaves m) c.loop-leaf.leaf there.leaf there.at)) words
    ∙ flat-place timeless_hart (machine_leaves m) c.loop-leaf.leaf there.leaf c.args.out.now.items c.loop-leaf.out.items there.at c.loop-leaf.invariant

pub returns : goal.returns
returns g c =
    let m = c.args.machine.now.machine in
    let leaves = ap (λ n. n.leaves) c.counts-leaf-end.ensures.counts in
    let past : length (machine_leaves m) ≤ c.loop-leaf.leaf = omega (arith, leaves, leaves-counted m, c.loop-leaf-test.false) in
    c.loop-leaf.invariant ∙ ap (λ vs. c.args.out.now.items ++ flat_map timeless_hart vs) (take_all c.loop-leaf.leaf (machine_leaves m) past)
